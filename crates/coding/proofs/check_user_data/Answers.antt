-- `coding::check_user_data` meets its contract: the limit is 140.
use Rattle.coding.specs.Coding.{checked_data}
use Rattle.coding.proofs.check_user_data.Goals as goal

pub returns : goal.returns
unfolding checked_data
returns c = c.check_user_data_within.ensures
