-- The default fields of a report are those of the blank record.
-- Assumes nothing.
use mathlib.Core.Path.{◌≡◌}
use Rattle.report.specs.Internal.{nothing}
use Rattle.report.specs.contracts.reading.ReportFieldsDefault.TheImpl.{ghosts}
use Rattle.report.specs.declared.reading.ReportFields.{ReportFields}

pub default_nothing : (f : ReportFields) → ghosts.is_default f → f ≡ nothing
default_nothing f d = d
