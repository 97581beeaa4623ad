-- What names of states mean, where all that is declared stands at places of its own.
use Rattle.std.proofs.Common.{◌≡◌, ◌∙◌, ℕ, zero, suc, ◌+◌, ◌≤◌, ◌<◌, Bool, true, false, nat_eq, inl, inr, List, [], ◌∷◌, ◌++◌, map, length, fold, Some, refl, ap, sym, subst, arith, append_assoc}
use Rattle.std.specs.Prelude.{cond, slice_get, option_to_list, flat_map, if◌then◌else◌}
use Rattle.std.specs.Map.{lookup}
use Rattle.std.proofs.lemmas.Bool.Decides.{Decides-eqb}
use Rattle.estelle_tree.specs.declared.names.Use.{Use as Used}
use Rattle.estelle_tree.specs.declared.tree.name.Name.{Name}
use Rattle.estelle_tree.specs.declared.tree.specification.Spec.{Spec}
use Rattle.estelle_model.specs.declared.meaning.Meaning.{Meaning}
use Rattle.estelle_model.specs.declared.meaning.Meaning.TheVariants.{State, Other, Own, Module, Ip}
use Rattle.estelle_model.specs.Meant.{Meanings}
use Rattle.estelle_model.specs.Denoted.{Declaration, Declarations, declare, numbered, sections_declare}
use Rattle.estelle_model.specs.Definitions.{block_declares, clause_declares}
use Rattle.estelle_model.specs.Names.{Declared, at_place, or_other, meant_by, declaration_of, with_one, with_all, none_yet, declared, meaning_at, required_meaning}
use Rattle.estelle_model.specs.Bodies.{BodyAlone, bodies, states_in, variables_in, own_from, module_variables_in, heading, ip_names, ips_in, clauses_in, ways_of, name_declares, body_declares, bodies_declare}
use Rattle.scope_rules.specs.NameRules.{IsOne}
use Rattle.accepted_states.proofs.Uses.{eq_self}
use Rattle.accepted_states.proofs.Lists.{Each, each_back, count, one_if, none_counted}

-- ---- where something is declared

-- where names mean nothing
abbrev pub nothing : Meanings
nothing = λ x. Other

-- where it declares something, if names mean this
abbrev pub places_by : Meanings → Declaration → List ℕ
places_by known d = map (λ e. e.0) (d.says known)

-- it declares something at the same places, whatever names mean
abbrev pub IsFixed : Declaration → Type 0
IsFixed d = (known : Meanings) → places_by known d ≡ places_by nothing d

-- how many of the places are so
abbrev pub weight : (ℕ → Bool) → Declarations → ℕ
weight t [] = 0
weight t (d ∷ ds) = count t (places_by nothing d) + weight t ds

pub weight-append : (t : ℕ → Bool) (ds es : Declarations) → weight t (ds ++ es) ≡ weight t ds + weight t es
weight-append t [] es = omega arith
weight-append t (d ∷ ds) es = let e = weight-append t ds es in omega (arith, e)

-- all stands at places of its own, whatever names mean
pub record AreApart (ds : Declarations) : Type 0 where
  pub fixed : Each IsFixed ds
  pub once : (p : ℕ) → weight (nat_eq p) ds ≤ 1

-- ---- what is declared at a place

abbrev Entry : Type 0
Entry = ℕ × Meaning

added : (p : ℕ) (known : Declared) (es : List Entry) → Each (λ n. nat_eq p n ≡ false) (map (λ e. e.0) es) → lookup (nat_eq p) (fold (λ k e. e ∷ k) known es) ≡ lookup (nat_eq p) known
added p known [] h = refl
added p known (e ∷ es) h = added p (e ∷ known) es h.1 ∙ ap (λ b. cond b (Some e.1) (lookup (nat_eq p) known)) h.0

unchanged : (names : List Used) (p : ℕ) (known : Declared) (ds : Declarations) → Each IsFixed ds → weight (nat_eq p) ds ≡ 0 → lookup (nat_eq p) (with_all names known ds) ≡ lookup (nat_eq p) known
unchanged names p known [] h e = refl
unchanged names p known (d ∷ ds) h e =
    let m = meant_by names known in
    let first : count (nat_eq p) (places_by m d) ≡ 0 = (let f = h.0 m in let g = ap (count (nat_eq p)) f in omega (arith, e, g)) in
    unchanged names p (with_one names known d) ds h.1 (omega (arith, e))
    ∙ added p known (d.says m) (none_counted (nat_eq p) (places_by m d) first)

with_all-append : (names : List Used) (known : Declared) (ds es : Declarations) → with_all names known (ds ++ es) ≡ with_all names (with_all names known ds) es
with_all-append names known [] es = refl
with_all-append names known (d ∷ ds) es = with_all-append names (with_one names known d) ds es

-- ---- one declaration among others

pub record Among (ds : Declarations) (d : Declaration) : Type 0 where
  pub before : Declarations
  pub behind : Declarations
  pub is : ds ≡ before ++ d ∷ behind

among_front : (ds es : Declarations) (d : Declaration) → Among ds d → Among (ds ++ es) d
among_front ds es d h = record { before = h.before; behind = h.behind ++ es; is = ap (λ xs. xs ++ es) h.is ∙ append_assoc h.before (d ∷ h.behind) es }

among_back : (ds es : Declarations) (d : Declaration) → Among es d → Among (ds ++ es) d
among_back ds es d h = record { before = ds ++ h.before; behind = h.behind; is = ap (λ xs. ds ++ xs) h.is ∙ sym (append_assoc ds h.before (d ∷ h.behind)) }

among_numbered : (says : ℕ → Meanings → Meaning) (m : ℕ) (xs : List Name) (n : ℕ) (y : Name) → slice_get xs n ≡ Some y → Among (numbered says m xs) (declare y (says (m + n)))
among_numbered says m [] n y e = absurd (cc)
among_numbered says m (x ∷ xs) zero y e =
    let same : x ≡ y = cc in
    let first : m + 0 ≡ m = omega arith in
    record { before = []; behind = numbered says (suc m) xs; is = ap (λ z. declare z (says m) ∷ numbered says (suc m) xs) same ∙ ap (λ k. declare y (says k) ∷ numbered says (suc m) xs) (sym first) }
among_numbered says m (x ∷ xs) (suc n) y e =
    let shift : suc m + n ≡ m + suc n = omega arith in
    among_back (declare x (says m) ∷ []) (numbered says (suc m) xs) (declare y (says (m + suc n))) (subst (λ k. Among (numbered says (suc m) xs) (declare y (says k))) shift (among_numbered says (suc m) xs n y e))

abbrev state_is : Name → ℕ → Declaration
state_is y n = declare y (λ known. State n)

among_body : (k : ℕ) (b : BodyAlone) (n : ℕ) (y : Name) → slice_get (states_in b) n ≡ Some y → Among (body_declares k b) (state_is y n)
among_body k b n y e =
    let first : 0 + n ≡ n = omega arith in
    let a = numbered (λ n known. State n) 0 (states_in b) in
    let d = state_is y n in
    let own = subst (λ j. Among a (state_is y j)) first (among_numbered (λ n known. State n) 0 (states_in b) n y e) in
    among_front _ (name_declares k b.name) d
    (among_front _ (flat_map (λ w. block_declares w.clauses w.block) (ways_of b)) d
    (among_front _ (flat_map clause_declares (clauses_in b)) d
    (among_front _ (flat_map (λ i. block_declares [] i.block) (option_to_list b.init)) d
    (among_front _ (numbered (λ n known. Ip (length (heading known b.header).ips + n)) 0 (ip_names (ips_in b))) d
    (among_front _ (numbered (λ n known. Module n) 0 (module_variables_in b)) d
    (among_front _ (sections_declare (λ known n t. Own (own_from known b + n) t) 0 (variables_in b)) d
    (among_front a (flat_map (λ d. d.names) b.brought) d own)))))))

among_bodies : (j : ℕ) (bs : List BodyAlone) (k : ℕ) (b : BodyAlone) (n : ℕ) (y : Name) → slice_get bs k ≡ Some b → slice_get (states_in b) n ≡ Some y → Among (bodies_declare j bs) (state_is y n)
among_bodies j [] k b n y e f = absurd (cc)
among_bodies j (x ∷ bs) zero b n y e f = let same : b ≡ x = cc in among_front (body_declares j x) (bodies_declare (suc j) bs) (state_is y n) (among_body j x n y (ap (λ z. slice_get (states_in z) n) (sym same) ∙ f))
among_bodies j (x ∷ bs) (suc k) b n y e f = among_back (body_declares j x) (bodies_declare (suc j) bs) (state_is y n) (among_bodies (suc j) bs k b n y e f)

-- ---- states

-- what is declared at the place of a state is the state
state_there : (names : List Used) (ds : Declarations) (y : Name) (n : ℕ) → AreApart ds → Among ds (state_is y n) → at_place (declared names ds) y.span.start ≡ State n
state_there names ds y n apart h =
    let p = y.span.start in
    let known = with_all names none_yet h.before in
    let one : count (nat_eq p) (p ∷ []) ≡ 1 = ap (λ b. one_if b + 0) (eq_self p) in
    let most = apart.once p in
    let all = ap (weight (nat_eq p)) h.is ∙ weight-append (nat_eq p) h.before (state_is y n ∷ h.behind) in
    let fixed = (each_back IsFixed h.before (state_is y n ∷ h.behind) (subst (Each IsFixed) h.is apart.fixed)).1 in
    ap or_other
    (ap (λ xs. lookup (nat_eq p) (declared names xs)) h.is
    ∙ ap (lookup (nat_eq p)) (with_all-append names none_yet h.before (state_is y n ∷ h.behind))
    ∙ unchanged names p (with_one names known (state_is y n)) h.behind fixed (omega (arith, most, all, one))
    ∙ ap (λ b. cond b (Some (State n)) (lookup (nat_eq p) known)) (eq_self p))

-- a name of one of the body's states is that state
pub record IsNumbered (xs : List Name) (y : Name) : Type 0 where
  pub number : ℕ
  pub below : number < length xs
  pub is : slice_get xs number ≡ Some y

pub number_of : (xs : List Name) (y : Name) → IsOne y xs → IsNumbered xs y
number_of [] y h = absurd h
number_of (x ∷ xs) y (inl e) = record { number = 0; below = omega arith; is = ap (λ z. Some z) (sym e) }
number_of (x ∷ xs) y (inr h) = let more = number_of xs y h in let b = more.below in record { number = suc more.number; below = omega (arith, b); is = more.is }

pub state_meant : (names : List Used) (spec : Spec) (k : ℕ) (b : BodyAlone) (x y : Name) (at : IsNumbered (states_in b) y)
    → AreApart (bodies_declare 0 (bodies spec)) → slice_get (bodies spec) k ≡ Some b → (y.span.end ≡ 0 → ⊥) → declaration_of names x ≡ Some y.span
    → meant_by names (declared names (bodies_declare 0 (bodies spec))) x ≡ State at.number
state_meant names spec k b x y at apart here ends known =
    let ds = bodies_declare 0 (bodies spec) in
    ap (meaning_at (declared names ds) x) known
    ∙ by (nat_eq y.span.end 0) refl
  where
    by : (t : Bool) → nat_eq y.span.end 0 ≡ t → meaning_at (declared names (bodies_declare 0 (bodies spec))) x (Some y.span) ≡ State at.number
    by true e = absurd (ends ((Decides-eqb y.span.end 0).0 e))
    by false e = ap (λ t. if t then required_meaning x.word else at_place (declared names (bodies_declare 0 (bodies spec))) y.span.start) e ∙ state_there names (bodies_declare 0 (bodies spec)) y at.number apart (among_bodies 0 (bodies spec) k b at.number y here at.is)
