-- What is said on the ways makes the flat transitions.
use Rattle.std.proofs.Common.{◌≡◌, ◌∙◌, List, [], ◌∷◌, ◌++◌, map, Option, Some, None, refl, ap, sym, append_assoc, append-nil}
use Rattle.std.specs.Prelude.{fold}
use Rattle.std.specs.List.{flat_map}
use Rattle.std.proofs.lemmas.Grind.{flat_map-append}
use Rattle.estelle_tree.specs.declared.tree.name.Name.{Name}
use Rattle.estelle_tree.specs.declared.tree.clause.Clause.{Clause}
use Rattle.estelle_tree.specs.declared.tree.specification.Trans.{Trans}
use Rattle.estelle_model.specs.Meant.{Meanings}
use Rattle.estelle_model.specs.Definitions.{types_received, interaction_of, received, domains_of}
use Rattle.estelle_model.specs.Bodies.{Way, ways}
use Rattle.estelle_model.specs.Transitions.{Choice, Transition, or_first, said, from_of, to_of, when_of, provided_of, priority_of, delay_of, choices, choices_on, flat_one, flat_way}
use Rattle.meaning_table.specs.Known.{Known}
use Rattle.flat_transitions.specs.declared.in_force.ClausesInForce.{ClausesInForce}
use Rattle.flat_transitions.specs.Flat.{with_chosen, transitions_in}
use Rattle.estelle_model.specs.Bodies.{ways_in}
use Rattle.flat_transitions.specs.Choices.{names_in}
use Rattle.flat_transitions.specs.Choices as choosing
use Rattle.flat_transitions.specs.Walks.{unsaid, with_clause, reached, at_way, below}
use Rattle.flat_transitions.proofs.Chosen as chosen

-- ---- what is said, clause by clause

first_again : {A : Type 0} (a b c : Option A) → or_first (or_first a b) c ≡ or_first a (or_first b c)
first_again None b c = refl
first_again (Some x) b c = refl

first_alone : {A : Type 0} (a : Option A) → a ≡ or_first a None
first_alone None = refl
first_alone (Some x) = refl

module _ (known : Meanings) where
  received_more : (c : Clause) (cs : List Clause) → received known (c ∷ []) ++ received known cs ≡ received known (c ∷ cs)
  received_more c cs =
      let types = λ (x : Name). types_received (known x) in
      sym (flat_map-append types (interaction_of c ++ []) (flat_map interaction_of cs)) ∙ ap (λ xs. flat_map types (xs ++ flat_map interaction_of cs)) (append-nil (interaction_of c))

  -- what is said, with all that these clauses say
  abbrev joined : ClausesInForce → List Clause → ClausesInForce
  joined s cs = record {
    from = or_first s.from (said (from_of known) cs);
    to = or_first s.to (said (to_of known) cs);
    when = or_first s.when (said (when_of known) cs);
    received = s.received ++ received known cs;
    provided = or_first s.provided (said (provided_of known) cs);
    priority = or_first s.priority (said (priority_of known) cs);
    delay = or_first s.delay (said (delay_of known) cs);
    choices = choosing.joined s.choices (choices known (names_in known (flat_map domains_of cs)));
  }

  joined_more : (s : ClausesInForce) (c : Clause) (cs : List Clause) → joined (with_clause known s c) cs ≡ joined s (c ∷ cs)
  joined_more s c cs =
      let from = first_again s.from (from_of known c) (said (from_of known) cs) in
      let to = first_again s.to (to_of known c) (said (to_of known) cs) in
      let when = first_again s.when (when_of known c) (said (when_of known) cs) in
      let types = append_assoc s.received (received known (c ∷ [])) (received known cs) ∙ ap (λ ts. s.received ++ ts) (received_more c cs) in
      let provided = first_again s.provided (provided_of known c) (said (provided_of known) cs) in
      let priority = first_again s.priority (priority_of known c) (said (priority_of known) cs) in
      let delay = first_again s.delay (delay_of known c) (said (delay_of known) cs) in
      let choices = chosen.choices_more known s.choices (domains_of c) (flat_map domains_of cs) in
      cc

  joined_none : (s : ClausesInForce) → s ≡ joined s []
  joined_none s = λ i. record {
    from = first_alone s.from i;
    to = first_alone s.to i;
    when = first_alone s.when i;
    received = sym (append-nil s.received) i;
    provided = first_alone s.provided i;
    priority = first_alone s.priority i;
    delay = first_alone s.delay i;
    choices = chosen.joined_none s.choices i;
  }

  all_said : (cs : List Clause) (s : ClausesInForce) → fold (with_clause known) s cs ≡ joined s cs
  all_said [] s = joined_none s
  all_said (c ∷ cs) s = all_said cs (with_clause known s c) ∙ joined_more s c cs

module _ (means : List Choice → Meanings) where
  way_flat : (w : Way) → at_way means unsaid w ≡ flat_way means w
  way_flat w =
      ap (λ s. reached means s w.block) (all_said (means []) w.clauses unsaid)
      ∙ ap (map (flat_one means w)) (chosen.none_joined (choices_on means w))

  ways_flat : (ws : List Way) → flat_map (at_way means unsaid) ws ≡ flat_map (flat_way means) ws
  ways_flat [] = refl
  ways_flat (w ∷ ws) = ap (λ ts. ts ++ flat_map (at_way means unsaid) ws) (way_flat w) ∙ ap (λ ts. flat_way means w ++ ts) (ways_flat ws)

  flattened : (ts : List Trans) → flat_map (λ t. below means unsaid t.body) ts ≡ transitions_in means ts
  flattened [] = refl
  flattened (t ∷ ts) =
      ap (λ us. us ++ flat_map (λ u. below means unsaid u.body) ts) (ways_flat (ways t.body))
      ∙ ap (λ us. flat_map (flat_way means) (ways t.body) ++ us) (flattened ts)
      ∙ sym (flat_map-append (flat_way means) (ways t.body) (ways_in ts))

-- what is found are the flat transitions
pub all_flattened : (known : Known) (ts : List Trans) (found : List Transition) → found ≡ flat_map (λ t. below (with_chosen known) unsaid t.body) ts → found ≡ transitions_in (with_chosen known) ts
all_flattened known ts found all = all ∙ flattened (with_chosen known) ts
