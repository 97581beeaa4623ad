-- What instances side by side select is what the first one selects, and then what the others do.
use Rattle.std.proofs.Common.{◌≡◌, ℕ, true, List, [], ◌∷◌, ◌++◌, length, take, drop, refl, sym, ap, subst, ◌∙◌, inl, inr, append_assoc}
use Rattle.std.proofs.lemmas.List.{take-append-drop}
use Rattle.std.proofs.Math.Seq.{take-append_seam, drop-append_seam}
use Rattle.estelle_tree.specs.declared.transition.Pair.{Pair}
use Rattle.estelle_tree.specs.Paths.{Path, is_inside}
use Rattle.estelle_model.specs.Subject.{Subject}
use Rattle.estelle_model.specs.Situation.{Situation}
use Rattle.estelle_model.specs.Selection.{Selects, SelectsEach, none, more}
use Rattle.estelle_model_legality.proofs.Lists.{not_true}
use Rattle.estelle_model_legality.proofs.Members.{Has, has_append}
use Rattle.estelle_model_legality.proofs.Selected.{selected}
use Rattle.selection_check.specs.Countings.{takes_len}
use Rattle.selection_check.proofs.Parts.{AreApart, prefix_is}

module _ (s : Subject) (budget : ℕ) (g : Situation) where
  pub inside_of : (c : Path) (takes : List Pair) → Selects s budget g c takes → (p : Pair) → Has takes p → is_inside c p.path ≡ true
  inside_of c takes selects = (selected s budget g selects).inside

  pub inside_each : {cs : List Path} {takes : List Pair} → SelectsEach s budget g cs takes → (p : Pair) → Has takes p → (d : Path) × (Has cs d) × (is_inside d p.path ≡ true)
  inside_each none p h = absurd h
  inside_each (more c cs some others selects rest) p h = elim (has_append some others p h) [
    | inl k ↦ (c, inl refl, inside_of c some selects p k)
    | inr k ↦ let d = inside_each rest p k in (d.0, inr d.1, d.2)
  ]

  pub nothing_each : (takes : List Pair) → SelectsEach s budget g [] takes → takes ≡ []
  nothing_each [] none = refl
  nothing_each (p ∷ ps) each = elim each [ ]

  -- what the first one selects, and what the others do
  pub record IsFirst (c : Path) (cs : List Path) (takes : List Pair) : Type 0 where
    pub some : List Pair
    pub others : List Pair
    pub are : takes ≡ some ++ others
    pub selects : Selects s budget g c some
    pub rest : SelectsEach s budget g cs others

  pub first_of : (c : Path) (cs : List Path) (takes : List Pair) → SelectsEach s budget g (c ∷ cs) takes → IsFirst c cs takes
  first_of c cs _ (more c' cs' some others selects rest) = record { some = some; others = others; are = refl; selects = selects; rest = rest }

  -- the first one selects what is inside it
  pub each_parts : (c : Path) (cs : List Path) → AreApart (c ∷ cs) → (takes : List Pair) → SelectsEach s budget g (c ∷ cs) takes
      → Selects s budget g c (take (takes_len c takes) takes) × SelectsEach s budget g cs (drop (takes_len c takes) takes)
  each_parts c cs apart _ (more c' cs' some others selects rest) =
      let n : takes_len c (some ++ others) ≡ length some =
      prefix_is (λ (p : Pair). is_inside c p.path) some others (inside_of c some selects)
      (λ p h. not_true (is_inside c p.path) (λ i. let d = inside_each rest p h in apart.0 d.0 p.path d.1 i d.2)) in (
        subst (Selects s budget g c) (sym (ap (λ k. take k (some ++ others)) n ∙ take-append_seam some others)) selects,
        subst (SelectsEach s budget g cs) (sym (ap (λ k. drop k (some ++ others)) n ∙ drop-append_seam some others)) rest,
      )

  pub each_joined : (c : Path) (cs : List Path) (n : ℕ) (takes : List Pair) → Selects s budget g c (take n takes) → SelectsEach s budget g cs (drop n takes) → SelectsEach s budget g (c ∷ cs) takes
  each_joined c cs n takes selects rest = subst (SelectsEach s budget g (c ∷ cs)) (take-append-drop n takes) (more c cs (take n takes) (drop n takes) selects rest)

  -- ---- two lists of instances

  pub each_append : {cs : List Path} {takes : List Pair} → SelectsEach s budget g cs takes → (ds : List Path) (after : List Pair) → SelectsEach s budget g ds after
      → SelectsEach s budget g (cs ++ ds) (takes ++ after)
  each_append none ds after each = each
  each_append (more c cs some others selects rest) ds after each =
      subst (SelectsEach s budget g (c ∷ (cs ++ ds))) (sym (append_assoc some others after)) (more c (cs ++ ds) some (others ++ after) selects (each_append rest ds after each))

  pub record IsSplit (cs ds : List Path) (takes : List Pair) : Type 0 where
    pub front : List Pair
    pub back : List Pair
    pub are : takes ≡ front ++ back
    pub of_front : SelectsEach s budget g cs front
    pub of_back : SelectsEach s budget g ds back

  pub each_split : (cs ds : List Path) (takes : List Pair) → SelectsEach s budget g (cs ++ ds) takes → IsSplit cs ds takes
  each_split [] ds takes each = record { front = []; back = takes; are = refl; of_front = none; of_back = each }
  each_split (c ∷ cs) ds takes each =
      let f = first_of c (cs ++ ds) takes each in
      let r = each_split cs ds f.others f.rest in
      record {
        front = f.some ++ r.front;
        back = r.back;
        are = f.are ∙ ap (λ ps. f.some ++ ps) r.are ∙ sym (append_assoc f.some r.front r.back);
        of_front = more c cs f.some r.front f.selects r.of_front;
        of_back = r.of_back;
      }
