-- The list of the flat transitions of a specification, by where they stand in its text.
use Rattle.std.specs.Prelude.{ℕ, suc, List, [], ◌∷◌, map, ℤ, option_map, option_to_list, Option, Some, None}
use Rattle.std.specs.List.{flat_map}
use Rattle.std.specs.Result.{result_ok}
use Rattle.estelle_tree.specs.declared.span.Span.{Span}
use Rattle.flat_transitions.specs.FromStates.{states_of}
use Rattle.flat_transitions.specs.declared.flat.Flat.{Flat}
use Rattle.flat_transitions.specs.declared.flat.FlatTrans.{FlatTrans}
use Rattle.flat_transitions.specs.declared.flat.Limit.{Limit}
use Rattle.flat_transitions.specs.declared.flat.Limit.TheVariants.{Same, At, Never}
use Rattle.estelle_tree.specs.declared.tree.expression.Expr.{Expr, out-Expr}
use Rattle.estelle_tree.specs.declared.tree.clause.DelayHigh.{DelayHigh}
use Rattle.estelle_tree.specs.declared.tree.clause.DelayHigh.TheVariants as high
use Rattle.estelle_tree.specs.declared.tree.specification.Spec.{Spec}
use Rattle.estelle_model.specs.Types.{ordinal_of}
use Rattle.estelle_model.specs.Meant.{Meanings}
use Rattle.estelle_model.specs.Bodies.{BodyAlone, bodies}
use Rattle.estelle_model.specs.Transitions.{When, Delay, Choice, Transition, flat}
use Rattle.estelle_model.specs.Subject.{Subject, meant_with}

abbrev pub span_of : Expr → Span
span_of e = (out-Expr e).span

abbrev pub received : When → ℕ × List ℕ
received w = (w.ip, w.name)

abbrev pub limit_of : Option DelayHigh → Limit
limit_of None = Same
limit_of (Some (high.Expr e)) = At (span_of e)
limit_of (Some high.Star) = Never

abbrev pub delay_of : Delay → Span × Limit
delay_of d = (span_of d.low, limit_of d.high)

-- the ordinals of the chosen values
abbrev pub ordinals_of : List Choice → List ℤ
ordinals_of = flat_map (λ c. option_to_list (result_ok (ordinal_of c.value)))

abbrev pub flat_trans : ℕ → Transition → FlatTrans
flat_trans n t = record {
  number = n;
  from = states_of t.from;
  to = t.to;
  when = option_map received t.when;
  provided = option_map span_of t.provided;
  priority = t.priority;
  delay = option_map delay_of t.delay;
  any = ordinals_of t.chosen;
  block = t.block.span;
}

-- with numbers from n on
abbrev pub numbered_from : ℕ → List Transition → List FlatTrans
numbered_from n [] = []
numbered_from n (t ∷ ts) = flat_trans n t ∷ numbered_from (suc n) ts

-- the flat transitions of a body, in text order and with numbers from 1 on
abbrev pub body_list : (List Choice → Meanings) → BodyAlone → List FlatTrans
body_list means b = numbered_from 1 (flat means b)

abbrev pub listed : (List Choice → Meanings) → Spec → Flat
listed means spec = record { bodies = map (body_list means) (bodies spec) }

-- the flat transitions of each body: number n in the list of body k is `transition s k n`
abbrev pub flat_list : Subject → Flat
flat_list s = listed (meant_with s) s.specification
