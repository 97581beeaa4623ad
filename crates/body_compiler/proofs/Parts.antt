-- The units of transitions, routines and bodies, one after another.
use Rattle.std.proofs.Common.{◌≡◌, ◌∙◌, refl, sym, subst, ap, ℕ, zero, suc, ◌+◌, ◌<◌, List, [], length, get_or, Option, Some, None, below_more, arith}
use Rattle.std.specs.Prelude.{map, slice_get, option_map, option_and_then, unwrap_or}
use Rattle.std.proofs.lemmas.List.{length-map}
use Rattle.std.proofs.lemmas.Option.{slice_get_within, slice_get_read, slice_get-map}
use Rattle.estelle_tree.specs.declared.tree.declaration.Routine.{Routine as RoutineTree}
use Rattle.body_code.specs.declared.unit.Entry.TheVariants as entry
use Rattle.body_code.specs.declared.unit.CodeUnit.{CodeUnit}
use Rattle.body_code.specs.Units.{unit_of}
use Rattle.estelle_tree.specs.declared.tree.expression.Expr.{Expr}
use Rattle.body_code.specs.declared.unit.Entry.{Entry}
use Rattle.estelle_model.specs.declared.denoter.Denoter.{Denoter}
use Rattle.estelle_model.specs.declared.meaning.Routine.{Routine}
use Rattle.estelle_model.specs.declared.meaning.Meaning.TheVariants.{Called}
use Rattle.estelle_model.specs.Meant.{Meanings}
use Rattle.estelle_model.specs.Names.{at_place}
use Rattle.estelle_model.specs.Bodies.{BodyAlone}
use Rattle.estelle_model.specs.Transitions.{Choice, Delay, Transition}
use Rattle.estelle_model.specs.Subject as model
use Rattle.estelle_model.specs.Subject.{Subject, declared_in, meant, meant_with, of_block, of_init, transition, transitions, numbered_one, initialization, nothing_to_do, begins, body as body_at}
use Rattle.meaning_table.specs.Known.{Known as Named, meanings_of}
use Rattle.body_state.specs.declared.bodies.Initialization.{Initialization}
use Rattle.body_state.specs.declared.bodies.ModuleBody.{ModuleBody}
use Rattle.body_state.specs.Bodies.{initialization_of, module_body, block_by}
use Rattle.body_program.specs.Chosen.{chosen_over}
use Rattle.body_program.specs.Programs.{known_of, block_in}
use Rattle.body_compiler_pieces.specs.UnitCode.{Known}
use Rattle.body_compiler_laws.specs.Compiled.{HasUnit}
use Rattle.body_compiler_laws.specs.Codes.{HasClause, AreApart, in_clause, provided_code}
use Rattle.body_program_numbers.specs.Numbering.{routines_of}
use Rattle.body_compiler_emission.specs.Known.{known_in}
use Rattle.body_compiler.specs.Whole.{Grown, IsFree, HasRoutine, HasRoutines, HasDelay, HasOne, HasNumbered, HasBody, HasBodies}
use Rattle.body_compiler.proofs.Growth.{then_grown, still_unit, still_clause, still_one, still_body}

-- ---- what may not be there

pub not_some : {A : Type 0} (o : Option A) (d : A) → o ≡ None → o ≡ Some d → ⊥
not_some o d is at = absurd (cc)

pub same_some : {A : Type 0} (o : Option A) (x d : A) → o ≡ Some x → o ≡ Some d → x ≡ d
same_some o x d is at = cc

pub unit_as : (us : List CodeUnit) (known : Known) (body : ℕ) (e : Entry) (r q : Routine) → r ≡ q → HasUnit us known body e r → HasUnit us known body e q
unit_as us known body e r q is h = subst (λ x. HasUnit us known body e x) is h

-- ---- transitions

-- a guard, a delay and a block, one behind the other
pub one_whole : (s : Subject) (us vs ws : List CodeUnit) (body trans : ℕ) (t : Transition) → Grown us vs → Grown vs ws → AreApart (declared_in s) t.chosen
    → HasClause us body (entry.Guard trans) t.received (provided_code (in_clause (known_in s (meant_with s t.chosen)) body t.received) t.provided)
    → HasDelay s (meant_with s t.chosen) vs body trans t.received t.delay
    → HasUnit ws (known_in s (meant_with s t.chosen)) body (entry.Block trans) (of_block (meant_with s t.chosen) t.received t.block)
    → HasOne s ws body trans t
one_whole s us vs ws body trans t g h apart guard delay block = record {
  units = record {
    block = block;
    provided = still_clause us ws (then_grown us vs ws g h) (known_in s (meant_with s t.chosen)) body _ _ _ guard;
    delay = λ d is. still_clause vs ws h (known_in s (meant_with s t.chosen)) body _ _ _ (delay d is);
  };
  apart = apart;
}

-- transitions are counted from 1
pub none_numbered : (s : Subject) (code : List CodeUnit) (body k : ℕ) → k < 1 → HasNumbered s code body k
none_numbered s code body zero less t is = absurd (cc)
none_numbered s code body (suc k) less t is = absurd (omega (arith, less))

numbered_within : (ts : List Transition) (k : ℕ) (t : Transition) → numbered_one ts k ≡ Some t → k < length ts + 1
numbered_within ts zero t is = absurd (cc)
numbered_within ts (suc k) t is = omega (arith, slice_get_within ts k t is)

pub all_numbered : (s : Subject) (code : List CodeUnit) (body count : ℕ) → count ≡ length (transitions s body) → ((k : ℕ) → k < count + 1 → HasNumbered s code body k) → (k : ℕ) → HasNumbered s code body k
all_numbered s code body count is has k t at = has k (omega (arith, is, numbered_within (transitions s body) k t at)) t at

-- one more
pub numbered_more : (s : Subject) (us vs : List CodeUnit) (body count : ℕ) → Grown us vs → ((k : ℕ) → k < count → HasNumbered s us body k) → HasNumbered s vs body count → (k : ℕ) → k < count + 1 → HasNumbered s vs body k
numbered_more s us vs body count g has one = below_more (λ k. HasNumbered s vs body k) count (λ k less t is. still_one us vs g s body k t (has k less t is)) one

-- a transition by its number in what is known of the same specification
pub same_one : (s p : Subject) → p ≡ s → (body trans : ℕ) (t u : Transition) → Some t ≡ transition p body trans → transition s body trans ≡ Some u → t ≡ u
same_one s p same body trans t u at is = let e : Some t ≡ Some u = at ∙ ap (λ (x : Subject). transition x body trans) same ∙ is in cc e

block_at : (s : Subject) (o : Option Transition) (t : Transition) (b : Routine) → Some t ≡ o → Some b ≡ option_map (block_in s) o → b ≡ block_in s t
block_at s None t b at is = absurd (cc at)
block_at s (Some u) t b at is = let e : t ≡ u = cc at in let f : b ≡ block_in s u = cc is in f ∙ ap (block_in s) (sym e)

pub same_block : (s p : Subject) → p ≡ s → (body trans : ℕ) (t : Transition) (b : Routine) → Some t ≡ transition p body trans → Some b ≡ option_map (block_in p) (transition p body trans) → b ≡ block_in s t
same_block s p same body trans t b at is = block_at p (transition p body trans) t b at is ∙ ap (λ (x : Subject). block_in x t) same

-- what is made of the parts of a transition is made of it
module _ (s : Subject) (us vs ws : List CodeUnit) (body trans : ℕ) (t : Transition) (known : Named) (chosen : List Choice) (table : Named) (received : List Denoter) (provided : Option Expr) (delay : Option Delay) (block : Routine)
    (known_is : known ≡ known_of s) (chosen_is : chosen ≡ t.chosen) (table_is : table ≡ chosen_over known chosen) (received_is : received ≡ t.received) (provided_is : provided ≡ t.provided) (delay_is : delay ≡ t.delay) (block_is : block ≡ block_in s t) where
  meanings_are : meanings_of table ≡ meant_with s t.chosen
  meanings_are = ap meanings_of table_is ∙ λ i. meanings_of (chosen_over (known_is i) (chosen_is i))

  pub one_made : Grown us vs → Grown vs ws → AreApart known.declared chosen
      → HasClause us body (entry.Guard trans) received (provided_code (in_clause (known_in s (meanings_of table)) body received) provided)
      → HasDelay s (meanings_of table) vs body trans received delay
      → HasUnit ws (known_in s (meanings_of table)) body (entry.Block trans) block
      → HasOne s ws body trans t
  one_made g h apart guard late does = one_whole s us vs ws body trans t g h
      (subst (λ (q : Named × List Choice). AreApart q.0.declared q.1) (λ i. (known_is i, chosen_is i)) apart)
      (subst (λ (q : Meanings × List Denoter × Option Expr). HasClause us body (entry.Guard trans) q.1 (provided_code (in_clause (known_in s q.0) body q.1) q.2)) (λ i. (meanings_are i, received_is i, provided_is i)) guard)
      (subst (λ (q : Meanings × List Denoter × Option Delay). HasDelay s q.0 vs body trans q.1 q.2) (λ i. (meanings_are i, received_is i, delay_is i)) late)
      (subst (λ (q : Meanings × Routine). HasUnit ws (known_in s q.0) body (entry.Block trans) q.1) (λ i. (meanings_are i, block_is i)) does)

-- ---- routines and initializations

-- by the table of the same specification
pub known_same : (s p : Subject) (table : Named) → p ≡ s → table ≡ known_of p → table ≡ known_of s
known_same s p table same is = is ∙ ap known_of same

pub meant_unit : (s : Subject) (table : Named) → table ≡ known_of s → (us : List CodeUnit) (body : ℕ) (e : Entry) (r : Routine) → HasUnit us (known_in s (meanings_of table)) body e r → HasUnit us (known_in s (meant s)) body e r
meant_unit s table is us body e r h = subst (λ (k : Named). HasUnit us (known_in s (meanings_of k)) body e r) is h

-- the routine that is declared at a place
pub declared_unit : (s : Subject) (table : Named) → table ≡ known_of s → (us : List CodeUnit) (body number : ℕ) (tree : RoutineTree) (called : Routine) → Called called ≡ at_place table.declared tree.name.span.start
    → HasUnit us (known_in s (meanings_of table)) body (entry.Routine number) called → HasRoutine s us body number tree
declared_unit s table is us body number tree called at h r means =
    let e : Called called ≡ Called r = at ∙ ap (λ (k : Named). at_place k.declared tree.name.span.start) is ∙ means in
    let same : called ≡ r = cc e in
    subst (λ x. HasUnit us (known_in s (meant s)) body (entry.Routine number) x) same (meant_unit s table is us body (entry.Routine number) called h)

block_begins : (o : Option model.Initialization) (i : Option Initialization) → i ≡ option_map initialization_of o → block_by i ≡ (unwrap_or o nothing_to_do).block
block_begins None i is = ap block_by is
block_begins (Some o) i is = ap block_by is

pub begins_with : (s : Subject) (body : ℕ) (i : Option Initialization) → i ≡ option_map initialization_of (initialization s body) → block_by i ≡ (begins s body).block
begins_with s body i is = block_begins (initialization s body) i is

-- those before a number
abbrev pub HasBefore : Subject → List CodeUnit → (body before : ℕ) → List RoutineTree → Type 0
HasBefore s code body before trees = (k : ℕ) → k < before → (tree : RoutineTree) → slice_get trees k ≡ Some tree → HasRoutine s code body k tree

module _ {A : Type 0} (seen : A → RoutineTree) (s : Subject) (body : ℕ) (trees : List A) where
  pub routines_more : (us vs : List CodeUnit) (number : ℕ) (x : A) → Grown us vs → number < length trees → x ≡ get_or trees number x → HasBefore s us body number (map seen trees) → HasRoutine s vs body number (seen x) → HasBefore s vs body (number + 1) (map seen trees)
  routines_more us vs number x g less item has one = below_more _ number (λ k l tree at r is. still_unit us vs g (known_in s (meant s)) body _ r (has k l tree at r is)) here
    where
      at_x : slice_get (map seen trees) number ≡ Some (seen x)
      at_x = slice_get-map seen trees number ∙ ap (option_map seen) (slice_get_read trees (length trees) number x refl less item)

      here : (tree : RoutineTree) → slice_get (map seen trees) number ≡ Some tree → HasRoutine s vs body number tree
      here tree at = let same : seen x ≡ tree = cc (at_x, at) in subst (λ y. HasRoutine s vs body number y) same one

  pub all_routines : (us : List CodeUnit) (n : ℕ) → n ≡ length trees → HasBefore s us body n (map seen trees) → HasRoutines s us body (map seen trees)
  all_routines us n is has k tree at = has k (omega (arith, is, slice_get_within (map seen trees) k tree at, length-map trees seen)) tree at

-- ---- bodies

-- routines, an initialization and transitions, one behind the other
pub body_whole : (s : Subject) (vs ws xs : List CodeUnit) (body : ℕ) → Grown vs ws → Grown ws xs → HasRoutines s vs body (routines_of s body)
    → HasUnit ws (known_in s (meant s)) body entry.Initialize (begins s body).block → ((k : ℕ) → HasNumbered s xs body k) → HasBody s xs body
body_whole s vs ws xs body g h routines initialization transitions = record {
  routines = λ k tree at r is. still_unit vs xs (then_grown vs ws xs g h) (known_in s (meant s)) body _ r (routines k tree at r is);
  initialization = still_unit ws xs h (known_in s (meant s)) body _ _ initialization;
  transitions = transitions;
}

-- ---- all bodies

-- what is known of the bodies of the same specification
pub known_there : (s b p : Subject) → b ≡ p → p ≡ s → (k : ℕ) (m : Option ModuleBody) → m ≡ option_map (module_body b k) (body_at b k) → m ≡ option_map (module_body s k) (body_at s k)
known_there s b p e f k m is = is ∙ ap (λ (x : Subject). option_map (module_body x k) (body_at x k)) (e ∙ f)

-- the initialization of one that is there
pub initialization_there : (s : Subject) (k : ℕ) (m : ModuleBody) → Some m ≡ option_map (module_body s k) (body_at s k) → m.initialization ≡ option_map initialization_of (initialization s k)
initialization_there s k m is = by (body_at s k) is
  where
    by : (o : Option BodyAlone) → Some m ≡ option_map (module_body s k) o → m.initialization ≡ option_map initialization_of (option_and_then (λ b. option_map (of_init (meant s)) b.init) o)
    by None e = absurd (cc e)
    by (Some b) e = let f : m ≡ module_body s k b = cc e in ap (λ (x : ModuleBody). x.initialization) f

free_none : (body : ℕ) → IsFree [] body
unfolding unit_of
free_none body k e less = refl

pub free_first : (us : List CodeUnit) (body : ℕ) → us ≡ [] → IsFree us body
free_first us body none = subst (λ vs. IsFree vs body) (sym none) (free_none body)

pub bodies_more : (s : Subject) (us vs : List CodeUnit) (count : ℕ) → Grown us vs → HasBodies s us count → HasBody s vs count → HasBodies s vs (count + 1)
bodies_more s us vs count g has one = below_more (λ k. HasBody s vs k) count (λ k less. still_body us vs g s k (has k less)) one
