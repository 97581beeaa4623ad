use Rattle.estelle_model.specs.declared.event.Event.TheVariants.{Fault}
use Rattle.trace_check.proofs.Deciding.{is_so, not_so}
use Rattle.trace_check.proofs.JudgingOn.{wrong, within, counted, faulted_on}
use Rattle.trace_check.proofs.judged_part.JudgedPart.fail.Goals as goal

pub returns-then-not-branch : goal.returns-then-not-branch
returns-then-not-branch c =
    wrong c.args.self.now c.requires.open (Fault c.args.path.now c.args.trans c.args.kind) c.requires.next (not_so c.in_ok-faults.field-0 c.in_ok-faults.ensures c.if-not-branch.true)

pub faults-requires-clause-below : goal.faults-requires-clause-below
faults-requires-clause-below c = within c.args.self.now c.requires.open (Fault c.args.path.now c.args.trans c.args.kind) c.requires.next

pub end_by-requires : goal.end_by-requires
end_by-requires c = counted c.args.self.now c.requires.open (Fault c.args.path.now c.args.trans c.args.kind) c.requires.next

pub returns : goal.returns
returns c =
    faulted_on c.args.self.now c.requires.open c.args.path.now c.args.trans c.args.kind c.requires.next (is_so c.in_ok-faults.field-0 c.in_ok-faults.ensures c.if-not-branch.false) c.end_by.new.self c.end_by.ensures
