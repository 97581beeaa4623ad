-- Whether a selection or a fault of a guard may come, by the answers of tests.
use Rattle.std.proofs.Common.{◌≡◌, ◌↔◌, ℕ, ◌+◌, ◌<◌, ◌≤◌, ◌^◌, Bool, true, false, List, ◌++◌, take, length, refl, sym, ap, subst, ◌∙◌, arith, length-append, below_more}
use Rattle.std.specs.Prelude.{IsTrue, Contains}
use Rattle.std.proofs.Math.Seq.{take-append_seam}
use Rattle.pascal_values.specs.declared.fault.Fault as fault
use Rattle.estelle_tree.specs.declared.transition.Pair.{Pair}
use Rattle.estelle_tree.specs.declared.transition.Wanted.{Wanted}
use Rattle.estelle_tree.specs.Paths.{Path, is_inside}
use Rattle.estelle_tree.specs.Timers.{pair}
use Rattle.estelle_model.specs.Subject.{Subject}
use Rattle.estelle_model.specs.Situation.{Situation}
use Rattle.estelle_model.specs.Attributes.{IsSystem}
use Rattle.estelle_model.specs.Delays.{wanted, renew}
use Rattle.estelle_model.specs.Selection.{Selects}
use Rattle.estelle_model.specs.Runs.{IsIdle, NoGuardFaults, IsFirstFault, MaySelect, GuardFaults}
use Rattle.estelle_model_legality.specs.Choices.{AreTree}
use Rattle.estelle_model_legality.specs.Pending.{AreInOrder}
use Rattle.estelle_model_legality.specs.Situations.{IsLegal}
use Rattle.estelle_model_legality.proofs.Children.{inside_way}
use Rattle.estelle_model_legality.proofs.Delays.{renewed_bounded}
use Rattle.estelle_model_legality.proofs.Lists.{not_both}
use Rattle.estelle_model_legality.proofs.Systems.{legal_tree}
use Rattle.delay_timers.specs.Moments.{AreDifferent}
use Rattle.trace_check.specs.Going.{IsSelectable, IsFaultOf}
use Rattle.trace_check.proofs.Faulting.{one_first}

-- the answer of a test
pub not_so : (b : Bool) {P : Type 0} → (IsTrue b ↔ P) → b ≡ false → P → ⊥
not_so b is no_so p = not_both b (is.1 p) no_so

pub is_so : (b : Bool) {P : Type 0} → (IsTrue b ↔ P) → b ≡ true → P
is_so b is so = is.0 so

-- what is pending
abbrev pub NoneOf : List Pair → Path → Type 0
NoneOf ps system = (p : Pair) → Contains ps p → IsTrue (is_inside system p.path) → ⊥

module _ (s : Subject) (budget : ℕ) (g : Situation) (system : Path) where
  pub idle_of : (ps : List Pair) → ps ≡ g.pending → NoneOf ps system → IsIdle g system
  idle_of ps is none p there = none p (subst (λ (qs : List Pair). Contains qs p) (sym is) there)

  pub none_of : (ps : List Pair) → ps ≡ g.pending → IsIdle g system → NoneOf ps system
  none_of ps is idle p there = idle p (subst (λ (qs : List Pair). Contains qs p) is there)

  -- ---- selections

  module _ (moment : ℕ) (takes : List Pair) where
    pub too_early : (before : ℕ) → before ≡ g.now → moment < before → MaySelect s budget g system moment takes → ⊥
    too_early before is early may = let later = may.no_earlier in omega (arith, is, early, later)

    pub not_sound : (m : Path) (n : ℕ) (kind : fault.Fault) → IsFirstFault s budget g system m n kind → MaySelect s budget g system moment takes → ⊥
    not_sound m n kind f may = may.sound m n kind f.inside f.faults

    -- in the situation in which it selects the instances are a tree, and the timers are in order
    pub tree_then : IsLegal s g → AreTree s (renew s budget g system moment).core.instances
    tree_then legal = legal_tree s g.core.instances legal.instances

    pub in_order_then : IsLegal s g → AreInOrder (renew s budget g system moment)
    in_order_then legal = renewed_bounded s budget g system moment legal.timers

    pub selectable : (before : ℕ) → before ≡ g.now → before ≤ moment → moment < 2 ^ 64 → IsSystem s g system → IsIdle g system → NoGuardFaults s budget g system
        → Selects s budget (renew s budget g system moment) system takes → (wants : List Wanted) → wants ≡ wanted s budget g system → AreDifferent wants
        → IsSelectable s budget g system moment takes wants
    selectable before is late within systems idle sound selects wants wants_are different = record {
      may = record { is_system = systems; idle = idle; no_earlier = (let e = is in omega (arith, e, late)); moment = within; sound = sound; selects = selects };
      wanted = wants_are;
      different = different;
    }

  -- ---- faults of guards

  pub other_fault : (m q : Path) (n l : ℕ) (k j : fault.Fault) → IsFirstFault s budget g system q l j → ((q ≡ m) × (l ≡ n) × (j ≡ k) → ⊥) → IsFaultOf s budget g system m n k → ⊥
  other_fault m q n l k j f differ own = let same = one_first s budget g system q m l n j k f own.first in differ (same.path, same.trans, same.kind)

  pub this_fault : (m q : Path) (n l : ℕ) (k j : fault.Fault) → IsSystem s g system → IsIdle g system → IsFirstFault s budget g system q l j → q ≡ m → l ≡ n → j ≡ k → IsFaultOf s budget g system m n k
  this_fault m q n l k j systems idle f path trans kind =
      record { is_system = systems; idle = idle; first = subst (IsFirstFault s budget g system m n) kind (subst (λ (x : ℕ). IsFirstFault s budget g system m x j) trans (subst (λ (x : Path). IsFirstFault s budget g system x l j) path f)) }

  pub none_faults : (m : Path) (n : ℕ) (k : fault.Fault) → NoGuardFaults s budget g system → IsFaultOf s budget g system m n k → ⊥
  none_faults m n k sound own = sound m n k own.first.inside own.first.faults

-- ---- the system of a guard

module _ (s : Subject) (budget : ℕ) (g : Situation) (m : Path) (n : ℕ) (kind : fault.Fault) where
  pub of_one : (system : Path) → IsFaultOf s budget g system m n kind → GuardFaults s budget g m n kind
  of_one system f = record { system = system; is_system = f.is_system; idle = f.idle; first = f.first }

  -- none of those above the instance that are shorter than this
  abbrev pub NoneShorter : ℕ → Type 0
  NoneShorter len = (k : ℕ) → k < len → IsFaultOf s budget g (take k m) m n kind → ⊥

  pub none_more : (len : ℕ) → NoneShorter len → (system : Path) → system ≡ take len m → (IsFaultOf s budget g system m n kind → ⊥) → NoneShorter (len + 1)
  none_more len before system is none k less =
      below_more (λ (j : ℕ). IsFaultOf s budget g (take j m) m n kind → ⊥) len before (subst (λ (x : Path). IsFaultOf s budget g x m n kind → ⊥) is none) k less

  -- of all that are at or above it none is
  pub of_none : (len : ℕ) → length m < len → NoneShorter len → GuardFaults s budget g m n kind → ⊥
  of_none len all none f =
      let way = inside_way f.system m f.first.inside in
      let is : take (length f.system) m ≡ f.system = ap (take (length f.system)) way.1 ∙ take-append_seam f.system way.0 in
      let within : length f.system < len = shorter f.system way.0 m way.1 len all in
      none (length f.system) within (subst (λ (x : Path). IsFaultOf s budget g x m n kind) (sym is) (record { is_system = f.is_system; idle = f.idle; first = f.first }))
    where
      shorter : (p q r : Path) → r ≡ p ++ q → (len : ℕ) → length r < len → length p < len
      shorter p q r is len less = let whole : length r ≡ length (p ++ q) = ap length is in let sum = length-append p q in omega (arith, whole, sum, less)

  -- where it is pending, no system at or above it has nothing pending
  pub pending_is_none : Contains g.pending (pair m n) → GuardFaults s budget g m n kind → ⊥
  pending_is_none there f = f.idle (pair m n) there f.first.inside

-- ---- answers

pub never : {P : Type 0} → (P → ⊥) → IsTrue false ↔ P
never wrong = (λ e. absurd (let so : false ≡ true = e in cc), λ p. absurd (wrong p))

pub always : {P : Type 0} → P → IsTrue true ↔ P
always p = (λ _. p, λ _. refl)

pub as_well : (b : Bool) {P Q : Type 0} → (IsTrue b ↔ P) → (P → Q) → (Q → P) → IsTrue b ↔ Q
as_well b is to back = (λ e. to (is.0 e), λ q. is.1 (back q))
