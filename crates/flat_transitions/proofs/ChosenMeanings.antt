-- What names mean where the names of `any` have values.
use Rattle.std.proofs.Common.{◌≡◌, ℕ, Bool, true, false, List, [], ◌∷◌, Option, Some, None, refl}
use Rattle.std.specs.Prelude.{nat_eq, fold}
use Rattle.estelle_tree.specs.declared.span.Span.{Span}
use Rattle.estelle_tree.specs.declared.tree.name.Name.{Name}
use Rattle.estelle_model.specs.declared.meaning.Meaning.{Meaning}
use Rattle.estelle_model.specs.declared.meaning.Meaning.TheVariants.{Constant}
use Rattle.estelle_model.specs.Names.{Declared, at_place, declaration_of, meaning_at}
use Rattle.estelle_model.specs.Transitions.{Choice, with_choices}
use Rattle.meaning_table.specs.Known.{Known, meanings_of}
use Rattle.flat_transitions.specs.Flat.{with_chosen}
use Rattle.flat_transitions.specs.Chosen.{chosen_after, chosen_by, chosen_for, meaning_chosen}

-- one more choice at a place
one_more : (at : ℕ) (known : Declared) (found : Option Choice) (c : Choice) (m : Meaning) → at_place known at ≡ meaning_chosen found m → at_place ((c.at, Constant c.value c.host) ∷ known) at ≡ meaning_chosen (chosen_after at found c) m
one_more at known found c m e = by (nat_eq at c.at) refl
  where
    by : (t : Bool) → nat_eq at c.at ≡ t → at_place ((c.at, Constant c.value c.host) ∷ known) at ≡ meaning_chosen (chosen_after at found c) m
    by true h = simp h
    by false h = simp (h, e)

places_chosen : (at : ℕ) (cs : List Choice) (known : Declared) (found : Option Choice) (m : Meaning) → at_place known at ≡ meaning_chosen found m → at_place (with_choices known cs) at ≡ meaning_chosen (fold (chosen_after at) found cs) m
places_chosen at [] known found m e = e
places_chosen at (c ∷ cs) known found m e = places_chosen at cs ((c.at, Constant c.value c.host) ∷ known) (chosen_after at found c) m (one_more at known found c m e)

by_declaration : (known : Declared) (cs : List Choice) (x : Name) (o : Option Span) → meaning_at (with_choices known cs) x o ≡ meaning_chosen (chosen_by cs o) (meaning_at known x o)
by_declaration known cs x None = refl
by_declaration known cs x (Some decl) = by (nat_eq decl.end 0) refl
  where
    by : (t : Bool) → nat_eq decl.end 0 ≡ t → meaning_at (with_choices known cs) x (Some decl) ≡ meaning_chosen (chosen_by cs (Some decl)) (meaning_at known x (Some decl))
    by true h = simp h
    by false h = rw h (places_chosen decl.start cs known None (at_place known decl.start) refl)

pub means_chosen : (known : Known) (cs : List Choice) (x : Name) → with_chosen known cs x ≡ meaning_chosen (chosen_for known cs x) (meanings_of known x)
means_chosen known cs x = by_declaration known.declared cs x (declaration_of known.names x)
