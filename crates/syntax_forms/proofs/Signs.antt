-- The terminals of signs, back and forth.
use Rattle.std.proofs.Common.{◌≡◌, Some, None, refl, inl, inr, ◌⊎◌}
use Rattle.estelle_tree.specs.declared.kind.Kind.{Kind}
use Rattle.estelle_tree.specs.declared.kind.Kind.TheVariants as k
use Rattle.estelle_tree.specs.declared.tree.type_expr.Sign.{Sign}
use Rattle.estelle_tree.specs.declared.tree.type_expr.Sign.TheVariants as sign
use Rattle.estelle_tree.specs.Types.{of_sign}
use Rattle.syntax_forms.specs.Types.{sign_of}
use Rattle.syntax_forms.proofs.KindLaws.{back_of}

pub sign_forth : (s : Sign) → sign_of (of_sign s) ≡ Some s
sign_forth sign.Plus = refl
sign_forth sign.Minus = refl

pub sign_back : (x : Kind) (s : Sign) → sign_of x ≡ Some s → x ≡ of_sign s
sign_back = back_of sign_of of_sign told
  where
    told : (x : Kind) → (sign_of x ≡ None) ⊎ ((s : Sign) × (sign_of x ≡ Some s) × (x ≡ of_sign s))
    told k.Plus = inr (sign.Plus, refl, refl)
    told k.Minus = inr (sign.Minus, refl, refl)
    told _ = inl refl
