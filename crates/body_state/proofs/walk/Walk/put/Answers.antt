use Rattle.std.proofs.Common.{ap, ◌∙◌, ◌∷◌}
use Rattle.pascal_values.specs.Values.{changed_at, with_part}
use Rattle.body_state.proofs.WalkLemmas.{put_fits, put_in_after}
use Rattle.body_state.proofs.walk.Walk.put.Goals as goal

pub returns-in-In : goal.returns-in-In
returns-in-In c = put_in_after c.self.inside c.args.self.now c.self.view_is _ c.args.place.now c.in-In.frame c.in-In.variable c.in-In.way c.args.value c.in-In.is
    (c.put_in_frame.ensures ∙ ap (λ way. changed_at c.self.inside.frames.items c.in-In.frame (λ v. with_part v (c.in-In.variable ∷ way) c.args.value)) c.as_slice-in-In.ensures)

pub returns-in-Of : goal.returns-in-Of
returns-in-Of c = put_fits c.args.self.now c.args.place.now c.in-Of.path c.in-Of.variable c.in-Of.way _ c.args.value c.put_of.result c.put_of.new.self c.in-Of.is c.as_slice.ensures c.put_of.ensures
