-- Bodies, by one equation for each kind of node, and what they declare.
use Rattle.std.proofs.Common.{◌≡◌, ◌∙◌, ℕ, ◌+◌, ◌<◌, Bool, List, [], ◌∷◌, ◌++◌, refl, ap, sym, take, drop, get_or, length, map, arith, add-one, add-zero, zero, suc, Option, Some, None, append-nil, append_assoc}
use Rattle.std.specs.Prelude.{option_to_list}
use Rattle.std.specs.List.{flat_map, slice_get}
use Rattle.std.proofs.lemmas.List.Folds.{flat_map-map}
use Rattle.estelle_tree.specs.declared.names.Use.{Use}
use Rattle.estelle_tree.specs.declared.tree.name.Name.{Name}
use Rattle.estelle_tree.specs.declared.tree.specification.Head.{Head}
use Rattle.estelle_tree.specs.declared.tree.specification.Trans.{Trans}
use Rattle.estelle_tree.specs.declared.tree.specification.Spec.{Spec}
use Rattle.estelle_tree.specs.declared.tree.specification.Body.{Body, out-Body}
use Rattle.estelle_tree.specs.declared.tree.specification.Parts.{Parts, out-Parts}
use Rattle.estelle_tree.specs.declared.tree.specification.Decl.{Decl, out-Decl, map-Decl, fold-Decl, fold_out-Decl}
use Rattle.estelle_tree.specs.declared.tree.specification.Decl.TheOpen.{Decl-F}
use Rattle.estelle_tree.specs.declared.tree.specification.Decl.TheFolds.{fold_out-Body, fold_out-Parts}
use Rattle.estelle_model.specs.Meant.{Meanings}
use Rattle.estelle_model.specs.Denoted.{Declarations, numbered, sections_declare, section_types}
use Rattle.estelle_model.specs.Definitions.{clause_declares, block_declares}
use Rattle.estelle_model.specs.Bodies.{Contribution, BodyAlone, nothing, headed, decl_layer, body_layer, parts_layer, default_of, standings, bodies as bodies_in, clauses, ways, name_declares, body_declares, bodies_declare, variable_types}
use Rattle.estelle_model.specs.Names.{declared}
use Rattle.estelle_model.specs.Subject.{Subject, body as subject_body, declared_in}
use Rattle.meaning_table.specs.Known.{Known, unknown, declare_all}
use Rattle.meaning_table.specs.Kinds.{numbered_behind, plainly}
use Rattle.meaning_table.specs.declared.kinds.VariableKind.TheVariants.{Own}
use Rattle.meaning_table.specs.declared.kinds.PlainKind.TheVariants.{State, Module}
use Rattle.meaning_table.proofs.Declarations.{declare-append, drop_next}
use Rattle.body_table.specs.Contributions.{states_of, names_of, variables_of, modules_of, ips_of, ip_names_in, ip_names_of, bodies_at, bodies_of, brought_at, brought_of}
use Rattle.body_table.specs.Standings.{body, standing, inner, inner_of, header_variables, own_ip, decls_declare, blocks_declare, root}
use Rattle.body_table.proofs.WayEquations.{nested}

-- ---- bodies

module _ (by_default : Bool) where
  decl : Decl → Contribution × List BodyAlone
  decl = fold-Decl (Contribution × List BodyAlone) (List BodyAlone) (List BodyAlone) (decl_layer by_default) (body_layer by_default) (parts_layer by_default)

  decl_out : (d : Decl) → decl d ≡ decl_layer by_default (map-Decl Decl Body Parts (Contribution × List BodyAlone) (List BodyAlone) (List BodyAlone) decl (body by_default) (standings by_default) (out-Decl d))
  unfolding decl body standings
  decl_out d = fold_out-Decl (Contribution × List BodyAlone) (List BodyAlone) (List BodyAlone) (decl_layer by_default) (body_layer by_default) (parts_layer by_default) d

  by_kind : (l : Decl-F Decl Body Parts) → decl_layer by_default (map-Decl Decl Body Parts (Contribution × List BodyAlone) (List BodyAlone) (List BodyAlone) decl (body by_default) (standings by_default) l) ≡ (brought_at by_default l, flat_map (body by_default) (bodies_at l))
  by_kind (Decl-F.Const defs span) = refl
  by_kind (Decl-F.Types defs span) = refl
  by_kind (Decl-F.Channel c) = refl
  by_kind (Decl-F.Header h) = refl
  by_kind (Decl-F.Body b) = ap (λ bs. (nothing, bs)) (sym (append-nil (body by_default b)))
  by_kind (Decl-F.Ip ips span) = refl
  by_kind (Decl-F.Modvar ms span) = refl
  by_kind (Decl-F.Var vars span) = refl
  by_kind (Decl-F.State states span) = refl
  by_kind (Decl-F.Stateset sets span) = refl
  by_kind (Decl-F.Routine r) = refl

  decl_is : (d : Decl) → decl d ≡ (brought_of by_default d, flat_map (body by_default) (bodies_of d))
  decl_is d = decl_out d ∙ by_kind (out-Decl d)

  brought_all : (ds : List Decl) → map (λ (x : Contribution × List BodyAlone). x.0) (map decl ds) ≡ map (brought_of by_default) ds
  brought_all [] = refl
  brought_all (d ∷ ds) = ap (λ (x : Contribution × List BodyAlone). x.0 ∷ map (λ (y : Contribution × List BodyAlone). y.0) (map decl ds)) (decl_is d) ∙ ap (λ bs. brought_of by_default d ∷ bs) (brought_all ds)

  inner_all : (ds : List Decl) → flat_map (λ (x : Contribution × List BodyAlone). x.1) (map decl ds) ≡ inner by_default ds
  inner_all [] = refl
  inner_all (d ∷ ds) = ap (λ (x : Contribution × List BodyAlone). x.1 ++ flat_map (λ (y : Contribution × List BodyAlone). y.1) (map decl ds)) (decl_is d) ∙ ap (λ bs. flat_map (body by_default) (bodies_of d) ++ bs) (inner_all ds)

  parts_out : (p : Parts) → standings by_default p ≡ record { name = None; header = None; brought = map (λ (x : Contribution × List BodyAlone). x.0) (map decl (out-Parts p).decls); init = (out-Parts p).init; trans = (out-Parts p).trans } ∷ flat_map (λ (x : Contribution × List BodyAlone). x.1) (map decl (out-Parts p).decls)
  unfolding decl body standings
  parts_out p = fold_out-Parts (Contribution × List BodyAlone) (List BodyAlone) (List BodyAlone) (decl_layer by_default) (body_layer by_default) (parts_layer by_default) p

  -- what stands between `specification` and its end
  pub parts_is : (p : Parts) → standings by_default p ≡ standing by_default None None p ∷ inner_of by_default p
  parts_is p =
      parts_out p
      ∙ ap (λ bs. record { name = None; header = None; brought = bs; init = (out-Parts p).init; trans = (out-Parts p).trans } ∷ flat_map (λ (x : Contribution × List BodyAlone). x.1) (map decl (out-Parts p).decls)) (brought_all (out-Parts p).decls)
      ∙ ap (λ ss. standing by_default None None p ∷ ss) (inner_all (out-Parts p).decls)

  body_out : (b : Body) → body by_default b ≡ headed by_default (out-Body b).name (out-Body b).header (standings by_default (out-Body b).parts)
  unfolding decl body standings
  body_out b = fold_out-Body (Contribution × List BodyAlone) (List BodyAlone) (List BodyAlone) (decl_layer by_default) (body_layer by_default) (parts_layer by_default) b

  pub body_is : (b : Body) → body by_default b ≡ standing by_default (Some (out-Body b).name) (Some (out-Body b).header) (out-Body b).parts ∷ inner_of by_default (out-Body b).parts
  body_is b = body_out b ∙ ap (headed by_default (out-Body b).name (out-Body b).header) (parts_is (out-Body b).parts)

pub ruleset bodies = (body_is, append-nil)

-- ---- what a body declares

assembled : (a b c d e f g h i : Declarations) → a ++ b ++ c ++ d ++ e ++ f ++ g ++ h ++ i ≡ (a ++ b ++ c ++ d ++ e) ++ (f ++ g ++ h) ++ i
assembled a b c d e f g h i = simp append_assoc

pub standing_declares : (by_default : Bool) (k : ℕ) (name header : Option Name) (p : Parts)
    → body_declares k (standing by_default name header p) ≡ decls_declare by_default header (out-Parts p).decls ++ blocks_declare (out-Parts p).init (out-Parts p).trans ++ name_declares k name
standing_declares by_default k name header p =
    let ds = (out-Parts p).decls in
    let brought = map (brought_of by_default) ds in
    let own = numbered_behind Own (header_variables header) in
    let inits = flat_map (λ i. block_declares [] i.block) (option_to_list (out-Parts p).init) in
    let cs = flat_map clause_declares (flat_map (λ t. clauses t.body) (out-Parts p).trans) in
    let ws = flat_map (λ w. block_declares w.clauses w.block) (flat_map (λ t. ways t.body) (out-Parts p).trans) in
    let last = name_declares k name in
    let nm = flat_map-map (λ (d : Contribution). d.names) (brought_of by_default) ds in
    let states = flat_map-map (λ (d : Contribution). d.states) (brought_of by_default) ds in
    let vars = flat_map-map (λ (d : Contribution). d.variables) (brought_of by_default) ds in
    let modules = flat_map-map (λ (d : Contribution). d.module_variables) (brought_of by_default) ds in
    let ips = ap (flat_map ip_names_in) (flat_map-map (λ (d : Contribution). d.ips) (brought_of by_default) ds) ∙ nested ip_names_in ips_of ds in
    ap (λ xs. numbered (plainly State) 0 xs ++ flat_map (λ (d : Contribution). d.names) brought ++ sections_declare own 0 (flat_map (λ (d : Contribution). d.variables) brought) ++ numbered (plainly Module) 0 (flat_map (λ (d : Contribution). d.module_variables) brought) ++ numbered (own_ip header) 0 (flat_map ip_names_in (flat_map (λ (d : Contribution). d.ips) brought)) ++ inits ++ cs ++ ws ++ last) states
    ∙ ap (λ xs. numbered (plainly State) 0 (flat_map states_of ds) ++ xs ++ sections_declare own 0 (flat_map (λ (d : Contribution). d.variables) brought) ++ numbered (plainly Module) 0 (flat_map (λ (d : Contribution). d.module_variables) brought) ++ numbered (own_ip header) 0 (flat_map ip_names_in (flat_map (λ (d : Contribution). d.ips) brought)) ++ inits ++ cs ++ ws ++ last) nm
    ∙ ap (λ xs. numbered (plainly State) 0 (flat_map states_of ds) ++ flat_map (names_of by_default) ds ++ sections_declare own 0 xs ++ numbered (plainly Module) 0 (flat_map (λ (d : Contribution). d.module_variables) brought) ++ numbered (own_ip header) 0 (flat_map ip_names_in (flat_map (λ (d : Contribution). d.ips) brought)) ++ inits ++ cs ++ ws ++ last) vars
    ∙ ap (λ xs. numbered (plainly State) 0 (flat_map states_of ds) ++ flat_map (names_of by_default) ds ++ sections_declare own 0 (flat_map variables_of ds) ++ numbered (plainly Module) 0 xs ++ numbered (own_ip header) 0 (flat_map ip_names_in (flat_map (λ (d : Contribution). d.ips) brought)) ++ inits ++ cs ++ ws ++ last) modules
    ∙ ap (λ xs. numbered (plainly State) 0 (flat_map states_of ds) ++ flat_map (names_of by_default) ds ++ sections_declare own 0 (flat_map variables_of ds) ++ numbered (plainly Module) 0 (flat_map modules_of ds) ++ numbered (own_ip header) 0 xs ++ inits ++ cs ++ ws ++ last) ips
    ∙ ap (λ xs. numbered (plainly State) 0 (flat_map states_of ds) ++ flat_map (names_of by_default) ds ++ sections_declare own 0 (flat_map variables_of ds) ++ numbered (plainly Module) 0 (flat_map modules_of ds) ++ numbered (own_ip header) 0 (flat_map ip_names_of ds) ++ inits ++ xs ++ ws ++ last) (nested clause_declares (λ t. clauses t.body) (out-Parts p).trans)
    ∙ ap (λ xs. numbered (plainly State) 0 (flat_map states_of ds) ++ flat_map (names_of by_default) ds ++ sections_declare own 0 (flat_map variables_of ds) ++ numbered (plainly Module) 0 (flat_map modules_of ds) ++ numbered (own_ip header) 0 (flat_map ip_names_of ds) ++ inits ++ flat_map (λ t. flat_map clause_declares (clauses t.body)) (out-Parts p).trans ++ xs ++ last) (nested (λ w. block_declares w.clauses w.block) (λ t. ways t.body) (out-Parts p).trans)
    ∙ assembled (numbered (plainly State) 0 (flat_map states_of ds)) (flat_map (names_of by_default) ds) (sections_declare own 0 (flat_map variables_of ds)) (numbered (plainly Module) 0 (flat_map modules_of ds)) (numbered (own_ip header) 0 (flat_map ip_names_of ds)) inits (flat_map (λ t. flat_map clause_declares (clauses t.body)) (out-Parts p).trans) (flat_map (λ t. flat_map (λ w. block_declares w.clauses w.block) (ways t.body)) (out-Parts p).trans) last

-- ---- bodies one after another

pub bodies-append : (k : ℕ) (xs ys : List BodyAlone) → bodies_declare k (xs ++ ys) ≡ bodies_declare k xs ++ bodies_declare (k + length xs) ys
bodies-append k [] ys = ap (λ n. bodies_declare n ys) (sym (add-zero k))
bodies-append k (x ∷ xs) ys =
    let shift : suc k + length xs ≡ k + suc (length xs) = omega arith in
    ap (λ ds. body_declares k x ++ ds) (bodies-append (suc k) xs ys ∙ ap (λ n. bodies_declare (suc k) xs ++ bodies_declare n ys) shift)
    ∙ sym (append_assoc (body_declares k x) (bodies_declare (suc k) xs) (bodies_declare (k + suc (length xs)) ys))

-- a body before those in it
pub bodies_first : (k : ℕ) (s : BodyAlone) (ss : List BodyAlone) (known : Known) → declare_all (declare_all known (body_declares k s)) (bodies_declare (k + 1) ss) ≡ declare_all known (bodies_declare k (s ∷ ss))
bodies_first k s ss known = ap (λ n. declare_all (declare_all known (body_declares k s)) (bodies_declare n ss)) (add-one k) ∙ sym (declare-append known (body_declares k s) (bodies_declare (suc k) ss))

-- the bodies of one more item
pub bodies_step : {A : Type 0} (f : A → List BodyAlone) (xs : List A) (i k : ℕ) (x : A) (known : Known) → i < length xs → x ≡ get_or xs i x
    → declare_all (declare_all known (bodies_declare k (f x))) (bodies_declare (k + length (f x)) (flat_map f (drop (i + 1) xs))) ≡ declare_all known (bodies_declare k (flat_map f (drop i xs)))
bodies_step f xs i k x known h e =
    let rest = flat_map f (drop (i + 1) xs) in
    sym (declare-append known (bodies_declare k (f x)) (bodies_declare (k + length (f x)) rest))
    ∙ ap (declare_all known) (sym (bodies-append k (f x) rest))
    ∙ ap (λ ys. declare_all known (bodies_declare k (flat_map f ys))) (sym (drop_next xs i x h e))

-- all that is declared
pub all_declared : (names : List Use) (ds : Declarations) → declare_all (unknown names) ds ≡ record { names = names; declared = declared names ds }
unfolding declare_all
all_declared names ds = refl

-- what is known behind a body
pub standing_known : (by_default : Bool) (k : ℕ) (name header : Option Name) (p : Parts) (known a b d : Known) (ds : List Decl) (ts : List Trans)
    → ds ≡ (out-Parts p).decls → ts ≡ (out-Parts p).trans → a ≡ declare_all known (decls_declare by_default header ds) → b ≡ declare_all a (blocks_declare (out-Parts p).init ts)
    → d ≡ declare_all b (name_declares k name) → d ≡ declare_all known (body_declares k (standing by_default name header p))
standing_known by_default k name header p known a b d ds ts e_ds e_ts e_a e_b e_d =
    let decls = decls_declare by_default header (out-Parts p).decls in
    let blocks = blocks_declare (out-Parts p).init (out-Parts p).trans in
    e_d
    ∙ ap (λ k2. declare_all k2 (name_declares k name)) (e_b ∙ ap (λ xs. declare_all a (blocks_declare (out-Parts p).init xs)) e_ts ∙ ap (λ k2. declare_all k2 blocks) (e_a ∙ ap (λ xs. declare_all known (decls_declare by_default header xs)) e_ds))
    ∙ ap (λ k2. declare_all k2 (name_declares k name)) (sym (declare-append known decls blocks))
    ∙ sym (declare-append known (decls ++ blocks) (name_declares k name))
    ∙ ap (declare_all known) (sym (standing_declares by_default k name header p))

-- what is known behind a specification
pub specification_known : (tree : Spec) (names : List Use) (start last : Known) (by_default : Bool) (heads : List Head)
    → heads ≡ tree.heads → by_default ≡ default_of heads → start ≡ unknown names → last ≡ declare_all start (bodies_declare 0 (standing by_default None None tree.parts ∷ inner_of by_default tree.parts))
    → last ≡ record { names = names; declared = declared_in (record { specification = tree; names = names }) }
specification_known tree names start last by_default heads e_heads e_default e_start e_last =
    e_last
    ∙ ap (λ k. declare_all k (bodies_declare 0 (standing by_default None None tree.parts ∷ inner_of by_default tree.parts))) e_start
    ∙ ap (λ b. declare_all (unknown names) (bodies_declare 0 (standing b None None tree.parts ∷ inner_of b tree.parts))) (e_default ∙ ap default_of e_heads)
    ∙ ap (λ bs. declare_all (unknown names) (bodies_declare 0 bs)) (sym (parts_is (default_of tree.heads) tree.parts))
    ∙ all_declared names (bodies_declare 0 (bodies_in tree))

-- the body with the number 0
pub root_is : (s : Subject) → subject_body s 0 ≡ Some (root s.specification)
root_is s = ap (λ bs. slice_get bs 0) (parts_is (default_of s.specification.heads) s.specification.parts)

-- the types of its variables
pub root_types : (known : Meanings) (tree : Spec) → variable_types known (root tree) ≡ section_types known (flat_map variables_of (out-Parts tree.parts).decls)
root_types known tree = ap (section_types known) (flat_map-map (λ (d : Contribution). d.variables) (brought_of (default_of tree.heads)) (out-Parts tree.parts).decls)
