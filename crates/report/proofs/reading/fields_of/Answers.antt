-- `report::reading::fields_of` meets its contract: first octet and cause, then the rest.
use mathlib.Core.Path.{sym}
use Rattle.report.proofs.FieldByField.{refused_found, stopped_found, no_first, other_type, ack_goes_on, error_stops, no_cause, error_goes_on}
use Rattle.report.proofs.Blank.{default_nothing}
use Rattle.report.proofs.reading.fields_of.Goals as goal

pub returns-in_default : goal.returns-in_default
returns-in_default c =
    let a = c.args in
    refused_found a.«data».now (no_first _ a.mti a.has_time a.rp_outcome (sym c.in_default.ensures))

pub returns-then-first-mti : goal.returns-then-first-mti
returns-then-first-mti c =
    let a = c.args in
    refused_found a.«data».now (other_type _ a.mti a.has_time (sym c.in-Some.ensures) a.rp_outcome c.if-first-mti.true)

pub returns-then-first-ne0 : goal.returns-then-first-ne0
returns-then-first-ne0 c =
    let a = c.args in
    rw (c.in-RpError.is, default_nothing _ c.default.ensures) (stopped_found a.«data».now (error_stops _ a.mti a.has_time (sym c.in-Some.ensures) c.if-first-mti.false c.if-first-ne0.true))

pub returns-in_default-octet : goal.returns-in_default-octet
returns-in_default-octet c =
    let a = c.args in
    rw c.in-RpError.is (refused_found a.«data».now
    (no_cause _ a.mti a.has_time (sym c.in-Some.ensures) c.if-first-mti.false c.if-first-ne0.false (sym c.in_default-octet.ensures)))

pub returns-in-RpAck : goal.returns-in-RpAck
returns-in-RpAck c =
    let a = c.args in
    rw (c.in-RpAck.is, ack_goes_on _ a.mti a.has_time (sym c.in-Some.ensures) c.if-first-mti.false) (rw c.in-RpAck.is at c.after_cause.ensures)

pub returns-in-Some-octet : goal.returns-in-Some-octet
returns-in-Some-octet c =
    let a = c.args in
    rw (
      c.in-RpError.is,
      error_goes_on _ a.mti a.has_time (sym c.in-Some.ensures) c.if-first-mti.false c.if-first-ne0.false (sym c.in-Some-octet.ensures),
    ) (rw c.in-RpError.is at c.after_cause-in-RpError.ensures)
