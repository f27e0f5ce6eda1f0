-- `reassembly::hand_over` meets its contract, case by case.
use native.Mathlib.Omega.{arith}
use Rattle.reassembly.proofs.Taking.{count_is, nothing_missing, hands_short, hands_done}
use Rattle.reassembly.proofs.hand_over.Goals as goal

pub put_parts-n-requires : goal.put_parts-n-requires
put_parts-n-requires c = (c.requires, omega arith, nothing_missing _ _ c.args.out.now _ (count_is _ c.missing_in.ensures) (omega arith))

pub returns-then-out-n : goal.returns-then-out-n
returns-then-out-n c = let written = c.put_parts-n.ensures in hands_short _ _ _ _ (count_is _ c.missing_in.ensures) (omega arith) _ _ written.0 written.1 (omega arith)

pub returns : goal.returns
returns c =
    let written = c.put_parts-n.ensures in
    hands_done _ _ _ _ (count_is _ c.missing_in.ensures) (omega arith) _ _ written.0 written.1 (omega arith) _ c.put_octets.ensures.list
