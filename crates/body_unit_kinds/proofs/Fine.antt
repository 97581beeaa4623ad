-- Where an instruction leads, and that what is fine stays so as more stacks are known.
use Rattle.std.proofs.Common.{◌≡◌, ◌∙◌, sym, subst, ℕ, suc, ◌<◌, ◌≤◌, ◌+◌, ◌++◌, Bool, true, false, List, [], length, Some, Result, Ok, Err, arith}
use borrow.Author.Count.{below_more}
use Rattle.std.specs.Prelude.{IsTrue, IfOk, slice_get}
use Rattle.std.specs.List.{list_all}
use Rattle.std.proofs.lemmas.Option.{slice_get_within}
use Rattle.pascal_values.specs.declared.fault.Fault.{Fault}
use Rattle.body_code.specs.declared.instr.Instr.{Instr}
use Rattle.body_code.specs.declared.instr.Instr.TheVariants as op
use Rattle.body_kinds.specs.Kinds.{Kind, is_of_values}
use Rattle.body_kinds.specs.Kinded.{Stacks, HasStacks, goes_back, Leads, straight, jump, jfalse, jtrue, turn, ret, fail}
use Rattle.body_unit_kinds.specs.declared.here.Here.{Here}
use Rattle.body_unit_kinds.specs.Seen.{stack_of, claimed, claimed_by}
use Rattle.body_unit_kinds.specs.Units.{table_with, Grows, Enters, Decides, GoesOn, GoesOnAt, LeadsTo, IsFineIn, IsVisited, IsFound}

-- what follows from a rule follows where it is met
pub met_then : {E : Type 0} (r : Result Bool E) (P Q : Type 0) → (P → Q) → IfOk r (λ b. b ≡ true → P) → IfOk r (λ b. b ≡ true → Q)
met_then (Ok b) P Q f met = λ is. f (met is)
met_then (Err e) P Q f met = met

module _ (h : Here) where
  abbrev LeadsIn : Stacks → ℕ → Instr → List Kind → Type 0
  LeadsIn stacks address i ks = Leads h.bodies.now h.numbers.now h.code.now (claimed h.claims.now) h.body h.unit.now (table_with h stacks) address i ks

  abbrev EntersIn : Stacks → ℕ → List Kind → Type 0
  EntersIn stacks to ks = (slice_get stacks to ≡ Some (Some ks)) × (goes_back h.bodies.now h.numbers.now h.code.now (claimed h.claims.now) to (slice_get h.unit.now.instrs to) ≡ false)

  entered : (stacks : Stacks) (to at : ℕ) (ks : List Kind) → to ≡ at → Enters h stacks to ks → EntersIn stacks at ks
  entered stacks to at ks is e = subst (λ (n : ℕ). EntersIn stacks n ks) is (e.stands, e.no_back)

  -- ---- where instructions lead

  pub jumps : (next to : ℕ) (ks : List Kind) (stacks : Stacks) → Enters h stacks to ks → LeadsTo h next (op.Jump to) ks stacks
  jumps next to ks stacks e address is = jump to ks (e.stands, e.no_back)

  before : (address next to : ℕ) → next ≡ suc address → next ≤ to → address < to
  before address next to is over = let i : next ≡ suc address = is in let o : next ≤ to = over in omega (arith, i, o)

  pub decides_false : (next to : ℕ) (ks : List Kind) (stacks : Stacks) → Decides h next to ks stacks → LeadsTo h next (op.Jfalse to) ks stacks
  decides_false next to ks stacks d address is =
      subst (λ (x : List Kind). LeadsIn stacks address (op.Jfalse to) x) (sym d.are)
      (jfalse to d.below (before address next to is d.over) (d.jumps.stands, d.jumps.no_back) (entered stacks next (suc address) d.below is d.falls))

  pub decides_true : (next to : ℕ) (ks : List Kind) (stacks : Stacks) → Decides h next to ks stacks → LeadsTo h next (op.Jtrue to) ks stacks
  decides_true next to ks stacks d address is =
      subst (λ (x : List Kind). LeadsIn stacks address (op.Jtrue to) x) (sym d.are)
      (jtrue to d.below (before address next to is d.over) (d.jumps.stands, d.jumps.no_back) (entered stacks next (suc address) d.below is d.falls))

  pub turns : (next : ℕ) (ks : List Kind) (stacks : Stacks) → slice_get stacks next ≡ Some (Some ks) → LeadsTo h next op.Turn ks stacks
  turns next ks stacks e address is = turn ks (subst (λ (n : ℕ). slice_get stacks n ≡ Some (Some ks)) is e)

  pub returns_there : (next : ℕ) (ks : List Kind) (stacks : Stacks) → ks ≡ stack_of h.claim.now.result → LeadsTo h next op.Ret ks stacks
  returns_there next ks stacks e address is = subst (λ (x : List Kind). LeadsIn stacks address op.Ret x) (sym e) ret

  pub fails : (next : ℕ) (kind : Fault) (ks : List Kind) (stacks : Stacks) → LeadsTo h next (op.Fail kind) ks stacks
  fails next kind ks stacks address is = fail kind ks

  goes_on : (next : ℕ) (i : Instr) (ks ls : List Kind) (stacks : Stacks) → GoesOn h i ks ls → Enters h stacks next ls → LeadsTo h next i ks stacks
  goes_on next i ks ls stacks g e address is =
      subst (λ (x : List Kind). LeadsIn stacks address i x) (sym g.effect.are)
      (straight i g.effect.taken g.left g.rest g.effect.leaves (entered stacks next (suc address) (g.left ++ g.rest) is (subst (λ (x : List Kind). Enters h stacks next x) g.are e)))

  pub leads_of : (next : ℕ) (i j : Instr) (ks : List Kind) (stacks : Stacks) → i ≡ j → LeadsTo h next j ks stacks → LeadsTo h next i ks stacks
  leads_of next i j ks stacks e l = subst (λ (x : Instr). LeadsTo h next x ks stacks) (sym e) l

  -- what an instruction does with the stack that stands there
  pub visited : (address next : ℕ) (i : Instr) (ks : List Kind) (old new : Stacks) → next ≡ suc address → slice_get h.unit.now.instrs address ≡ Some i → slice_get old address ≡ Some (Some ks) → Grows next old new
      → LeadsTo h next i ks new → IsVisited h new address
  visited address next i ks old new is there stood grows leads ls h' =
      let stands : slice_get new address ≡ Some (Some ks) = grows.more address ks stood in
      let same : ks ≡ ls = cc in
      subst (λ (x : List Kind). IsFineIn h new address x) same (record { instr = i; there = there; leads = leads address is })

  pub visited_on : (address next : ℕ) (ls : List Kind) (old new : Stacks) → next ≡ suc address → GoesOnAt h old address ls → Grows next old new → Enters h new next ls → IsVisited h new address
  visited_on address next ls old new is l grows e = visited address next l.instr l.ks old new is l.there l.stood grows (goes_on next l.instr l.ks ls new l.goes e)

  -- nothing stands there
  pub not_visited : (address next : ℕ) (old : Stacks) → ((ks : List Kind) → slice_get old address ≡ Some (Some ks) → ⊥) → IsVisited h old address
  not_visited address next old empty ks stands = absurd (empty ks stands)

  -- ---- as more is known

  still : (s t : Stacks) (to : ℕ) (ks : List Kind) → ((k : ℕ) (ls : List Kind) → slice_get s k ≡ Some (Some ls) → slice_get t k ≡ Some (Some ls)) → EntersIn s to ks → EntersIn t to ks
  still s t to ks more e = (more to ks e.0, e.1)

  leads_still : (s t : Stacks) → ((k : ℕ) (ls : List Kind) → slice_get s k ≡ Some (Some ls) → slice_get t k ≡ Some (Some ls)) → (address : ℕ) (i : Instr) (ks : List Kind) → LeadsIn s address i ks → LeadsIn t address i ks
  leads_still s t more address _ _ (straight i taken left below l e) = straight i taken left below l (still s t (suc address) (left ++ below) more e)
  leads_still s t more address _ _ (jump to ks e) = jump to ks (still s t to ks more e)
  leads_still s t more address _ _ (jfalse to ks less e f) = jfalse to ks less (still s t to ks more e) (still s t (suc address) ks more f)
  leads_still s t more address _ _ (jtrue to ks less e f) = jtrue to ks less (still s t to ks more e) (still s t (suc address) ks more f)
  leads_still s t more address _ _ (turn ks e) = turn ks (more (suc address) ks e)
  leads_still s t more address _ _ ret = ret
  leads_still s t more address _ _ (fail kind ks) = fail kind ks

  fine_still : (a : ℕ) (s t : Stacks) (address : ℕ) (ks : List Kind) → Grows a s t → IsFineIn h s address ks → IsFineIn h t address ks
  fine_still a s t address ks g f = record { instr = f.instr; there = f.there; leads = leads_still s t g.more address f.instr ks f.leads }

  visited_still : (a : ℕ) (s t : Stacks) (address : ℕ) → address < a → Grows a s t → IsVisited h s address → IsVisited h t address
  visited_still a s t address less g v ks stands = fine_still a s t address ks g (v ks (sym (g.kept address less) ∙ stands))

  -- ---- the whole unit

  pub found_none : (s : Stacks) → length s ≡ length h.unit.now.instrs → Enters h s 0 [] → IsFound h s 0
  found_none s all begins = record { all = all; begins = begins; fine = λ k less. absurd (let l : k < 0 = less in omega (arith, l)) }

  -- the next address, after a guess
  pub found_more : (s t u : Stacks) (address : ℕ) → IsFound h s address → Grows address s t → Grows (address + 1) t u → IsVisited h u address → IsFound h u (address + 1)
  found_more s t u address f g m v = record {
    all = m.same ∙ g.same ∙ f.all;
    begins = record { stands = m.more 0 [] (g.more 0 [] f.begins.stands); no_back = f.begins.no_back };
    fine = below_more (λ (n : ℕ). IsVisited h u n) address (λ k less. visited_still (address + 1) t u k (let l : k < address = less in omega (arith, l)) m (visited_still address s t k less g (f.fine k less))) v;
  }

  pub has_stacks : (s : Stacks) → IsFound h s (length h.unit.now.instrs) → IsTrue (list_all is_of_values (stack_of h.claim.now.result))
      → HasStacks h.bodies.now h.numbers.now h.code.now (claimed h.claims.now) h.body h.unit.now (claimed_by (Some h.claim.now))
  has_stacks s f values = (
    s,
    record {
      begins = (f.begins.stands, f.begins.no_back);
      each = λ address ks stands. f.fine address (subst (λ n. address < n) f.all (slice_get_within s address (Some ks) stands)) ks stands;
      values = values;
    },
  )
