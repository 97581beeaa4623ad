use Rattle.std.proofs.Common.{subst}
use Rattle.std.proofs.lemmas.Option.{slice_get_within}
use Rattle.estelle_tree.specs.Timers.{pair}
use Rattle.estelle_model.specs.Jobs.{Answers}
use Rattle.estelle_model.specs.Subject.{Subject}
use Rattle.situation_state.proofs.At.{on_err}
use Rattle.situation.proofs.Fired.{chosen_unchanged, reserved_unchanged, there_then, kept_then, in_time, may_commit, fire_steps, fire_settles, unclocked}
use Rattle.situation.proofs.execution.Execution.fire.Goals as goal

pub fire-requires : goal.fire-requires
fire-requires g c some = c.in_ok-at.ensures.chosen.in_order

pub returns-in_err-done-clause-refused : goal.returns-in_err-done-clause-refused
returns-in_err-done-clause-refused g c =
    let old = c.args.self.now in
    let x = c.in_ok-at.field-0 in
    let o = c.requires.open.is_open in
    let unended = c.requires.open.unended in
    let chosen = c.in_ok-at.ensures.chosen in
    on_err c.from_residual-in_err-done.result _ (chosen_unchanged g.H.Chooser.draw old c.choose.new.self o unended x chosen)

pub returns-in_err-reserve-clause-refused : goal.returns-in_err-reserve-clause-refused
returns-in_err-reserve-clause-refused g c =
    let old = c.args.self.now in
    let x = c.in_ok-at.field-0 in
    let o = c.requires.open.is_open in
    let unended = c.requires.open.unended in
    let chosen = c.in_ok-at.ensures.chosen in
    on_err c.from_residual-in_err-reserve.result _ (reserved_unchanged g.H.Chooser.draw old c.choose.new.self o unended x chosen c.reserve.new.self c.reserve.ensures.same)

pub take-requires-clause-there : goal.take-requires-clause-there
take-requires-clause-there g c =
    let old = c.args.self.now in
    let x = c.in_ok-at.field-0 in
    let o = c.requires.open.is_open in
    let unended = c.requires.open.unended in
    let chosen = c.in_ok-at.ensures.chosen in
    slice_get_within c.reserve.new.self.state.untaken.items x.at (pair x.path x.job.trans) (there_then g.H.Chooser.draw old c.choose.new.self o unended x chosen c.reserve.new.self c.reserve.ensures.same)

pub commit-requires-clause-keeps : goal.commit-requires-clause-keeps
commit-requires-clause-keeps g c =
    let old = c.args.self.now in
    let x = c.in_ok-at.field-0 in
    let o = c.requires.open.is_open in
    let unended = c.requires.open.unended in
    let chosen = c.in_ok-at.ensures.chosen in
    let m = c.choose.new.self in
    let r = c.reserve.new.self in
    let n = c.take.new.self in
    let reserved = c.reserve.ensures.same in
    let taken = c.take.ensures x.job.trans (there_then g.H.Chooser.draw old m o unended x chosen r reserved) in
    kept_then g.H.Chooser.draw old m r n o c.requires.ready.below x chosen reserved taken unended

pub commit-requires-clause-may : goal.commit-requires-clause-may
commit-requires-clause-may g c =
    let old = c.args.self.now in
    let x = c.in_ok-at.field-0 in
    let o = c.requires.open.is_open in
    let unended = c.requires.open.unended in
    let chosen = c.in_ok-at.ensures.chosen in
    let m = c.choose.new.self in
    let r = c.reserve.new.self in
    let n = c.take.new.self in
    let reserved = c.reserve.ensures.same in
    let taken = c.take.ensures x.job.trans (there_then g.H.Chooser.draw old m o unended x chosen r reserved) in
    let answers = subst (λ (s : Subject). Answers s x.job c.in_ok-done.done) c.requires.code c.in_ok-done.ensures in
    may_commit g.H.Chooser.draw old m r n o c.requires.ready.below x chosen reserved taken c.in_ok-done.done answers c.in_ok-reserve.ensures.room c.in_ok-reserve.ensures.spare

pub stepped-requires : goal.stepped-requires
stepped-requires g c =
    let old = c.args.self.now in
    let x = c.in_ok-at.field-0 in
    let o = c.requires.open.is_open in
    let unended = c.requires.open.unended in
    let chosen = c.in_ok-at.ensures.chosen in
    let m = c.choose.new.self in
    let r = c.reserve.new.self in
    let n = c.take.new.self in
    let reserved = c.reserve.ensures.same in
    let taken = c.take.ensures x.job.trans (there_then g.H.Chooser.draw old m o unended x chosen r reserved) in
    in_time g.H.Chooser.draw old m r n o c.requires.ready.below x chosen reserved taken unended c.commit.new.self c.in_ok-done.done c.commit.result c.commit.ensures

pub returns-clause-stepped : goal.returns-clause-stepped
returns-clause-stepped g c moment =
    let old = c.args.self.now in
    let x = c.in_ok-at.field-0 in
    let o = c.requires.open.is_open in
    let unended = c.requires.open.unended in
    let chosen = c.in_ok-at.ensures.chosen in
    let m = c.choose.new.self in
    let r = c.reserve.new.self in
    let n = c.take.new.self in
    let reserved = c.reserve.ensures.same in
    let taken = c.take.ensures x.job.trans (there_then g.H.Chooser.draw old m o unended x chosen r reserved) in
    let answers = subst (λ (s : Subject). Answers s x.job c.in_ok-done.done) c.requires.code c.in_ok-done.ensures in
    fire_steps g.H.Chooser.draw old o unended c.requires.ready c.requires.none m r n x chosen reserved taken c.in_ok-done.done answers c.in_ok-reserve.ensures.room c.in_ok-reserve.ensures.spare c.commit.new.self moment c.commit.result c.stepped.result c.commit.ensures c.stepped.ensures

pub returns-clause-settled : goal.returns-clause-settled
returns-clause-settled g c =
    let old = c.args.self.now in
    let x = c.in_ok-at.field-0 in
    let o = c.requires.open.is_open in
    let unended = c.requires.open.unended in
    let chosen = c.in_ok-at.ensures.chosen in
    let m = c.choose.new.self in
    let r = c.reserve.new.self in
    let n = c.take.new.self in
    let reserved = c.reserve.ensures.same in
    let taken = c.take.ensures x.job.trans (there_then g.H.Chooser.draw old m o unended x chosen r reserved) in
    let answers = subst (λ (s : Subject). Answers s x.job c.in_ok-done.done) c.requires.code c.in_ok-done.ensures in
    fire_settles g.H.Chooser.draw old o unended c.requires.ready c.requires.none m r n x chosen reserved taken c.in_ok-done.done answers c.in_ok-reserve.ensures.room c.in_ok-reserve.ensures.spare c.commit.new.self c.commit.result c.stepped.result c.commit.ensures c.stepped.ensures

pub returns-clause-unclocked : goal.returns-clause-unclocked
returns-clause-unclocked g c = unclocked c.commit.result c.stepped.result c.stepped.ensures
