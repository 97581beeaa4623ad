-- All terminals of the grammar, and tests on terminals.
use Rattle.std.specs.Prelude.{◌≡◌, Bool, true, false, ◌&&◌, not, List, [], ◌∷◌}
use Rattle.std.specs.List.{list_all}
use denote.Enum.Bare.{sameb}
use Rattle.estelle_tree.specs.contracts.kind.Kind.{the_type}
use Rattle.estelle_tree.specs.declared.kind.Kind.{Kind}
use Rattle.estelle_tree.specs.declared.kind.Kind.TheVariants as k

-- it is this terminal
abbrev pub is : Kind → Kind → Bool
is k other = sameb the_type other k

abbrev pub never : Kind → Bool
never k = false

abbrev pub kinds : List Kind
kinds =
    k.Nothing ∷ k.Name ∷ k.Number ∷ k.Char ∷ k.Plus ∷ k.Minus ∷ k.Star ∷ k.Equal ∷ k.NotEqual ∷ k.Less ∷
    k.AtMost ∷ k.Greater ∷ k.AtLeast ∷ k.OpenParenthesis ∷ k.CloseParenthesis ∷ k.OpenBracket ∷ k.CloseBracket ∷ k.Dot ∷ k.Dots ∷ k.Comma ∷
    k.Semicolon ∷ k.Colon ∷ k.Becomes ∷ k.Activity ∷ k.All ∷ k.And ∷ k.Any ∷ k.Array ∷ k.Attach ∷ k.Begin ∷
    k.Body ∷ k.By ∷ k.Case ∷ k.Channel ∷ k.Common ∷ k.Connect ∷ k.Const ∷ k.Default ∷ k.Delay ∷ k.Detach ∷
    k.Disconnect ∷ k.Div ∷ k.Do ∷ k.Downto ∷ k.Else ∷ k.End ∷ k.Exist ∷ k.Export ∷ k.External ∷ k.File ∷
    k.For ∷ k.Forone ∷ k.From ∷ k.Function ∷ k.Goto ∷ k.If ∷ k.In ∷ k.Individual ∷ k.Init ∷ k.Initialize ∷
    k.Ip ∷ k.Label ∷ k.Mod ∷ k.Module ∷ k.Modvar ∷ k.NameWord ∷ k.Nil ∷ k.Not ∷ k.Of ∷ k.Or ∷
    k.Otherwise ∷ k.Output ∷ k.Packed ∷ k.Primitive ∷ k.Priority ∷ k.Procedure ∷ k.Process ∷ k.Program ∷ k.Provided ∷ k.Queue ∷
    k.Record ∷ k.Release ∷ k.Repeat ∷ k.Same ∷ k.Set ∷ k.Specification ∷ k.State ∷ k.Stateset ∷ k.Suchthat ∷ k.Systemactivity ∷
    k.Systemprocess ∷ k.Terminate ∷ k.Then ∷ k.Timescale ∷ k.To ∷ k.Trans ∷ k.Type ∷ k.Until ∷ k.Var ∷ k.When ∷
    k.While ∷ k.With ∷
    []

-- what holds of each terminal is computed
abbrev pub of_all : (Kind → Bool) → Bool
of_all test = list_all test kinds

-- no terminal meets both
abbrev pub Apart : (Kind → Bool) → (Kind → Bool) → Type 0
Apart one other = of_all (λ k. not (one k && other k)) ≡ true
