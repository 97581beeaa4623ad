-- What the machine's instructions of Estelle do is what the plans of its statements do.
use Rattle.std.proofs.Common.{◌≡◌, ◌∙◌, refl, sym, ap, ap₂, subst, ℕ, List, Option, Some, None}
use Rattle.pascal_values.specs.declared.value.Value.{Value}
use Rattle.estelle_tree.specs.declared.tree.name.Name.{Name}
use Rattle.estelle_tree.specs.declared.tree.statement.Ip as tree
use Rattle.estelle_tree.specs.Paths.{Path}
use Rattle.body_code.specs.declared.instr.Point as point
use Rattle.body_code.specs.declared.instr.Point.TheVariants.{Own, OfChild}
use Rattle.body_code.specs.declared.instr.Ends as ends
use Rattle.body_code.specs.declared.instr.Ends.TheVariants.{Point, Child}
use Rattle.estelle_model.specs.declared.meaning.Meaning.{Meaning}
use Rattle.estelle_model.specs.declared.meaning.Meaning.TheVariants.{Ip, Module, Interaction}
use Rattle.estelle_model.specs.States.{Logged, on_log}
use Rattle.estelle_model.specs.Steps.{Running, Step, Do, and_then}
use Rattle.estelle_model.specs.Plans.{Plan, ◌>>=◌, spends, carry}
use Rattle.estelle_model.specs.Places.{child_step}
use Rattle.estelle_model.specs.Statements.{Connect, Output}
use Rattle.estelle_model.specs.Subject.{Subject}
use Rattle.estelle_model.specs.Actions.{at, ip_of, ip_in, connect_points, disconnect_point, disconnect, detach_point, attach_points, output_at, plan_of}
use Rattle.estelle_model.proofs.Carried.{carry_then}
use Rattle.body_machine.specs.Ends.{end_at, connect_ends, disconnect_ends, attach_end, output_with}
use Rattle.body_numbers.specs.declared.numbers.Numbers.{Numbers}
use Rattle.body_numbers.specs.Numbers.{word_of, interaction_of}
use Rattle.body_compiler_pieces.specs.ExpressionCode.{Scope}
use Rattle.body_compiler_pieces.specs.StatementCode.{point_of, ends_of, meant_part}
use Rattle.body_compiler_laws.specs.Compiled.{IsInteraction}
use Rattle.body_compiler_laws.proofs.Operands.{same_then}

-- by what the names mean
abbrev pub attach_plan : Subject → Path → Meaning → Meaning → Option Meaning → Plan (Unit {0})
attach_plan s p own x part = ip_of s p own >>= λ upper. ip_in s p x part >>= λ lower. attach_points s upper lower

abbrev pub detach_plan : Subject → Path → Meaning → Plan (Unit {0})
detach_plan s p own = ip_of s p own >>= detach_point s

-- a plan is carried out
abbrev pub carried : {B : Type 0} → Plan B → Step Logged B
carried p = carry Logged on_log p

-- what carries out a plan, and then, of each value, what carries out the rest
carried_then : {A : Type 0} (x : Step Logged A) (P : Plan A) (f : A → Do Logged) (g : A → Plan (Unit {0})) → ((r : Running Logged) → x r ≡ carried P r) → ((a : A) (r : Running Logged) → f a r ≡ carried (g a) r)
    → (r : Running Logged) → and_then (x r) f ≡ carried (P >>= g) r
carried_then x P f g h k r = ap (λ o. and_then o f) (h r) ∙ same_then (carried P r) f (λ a. carried (g a)) k ∙ sym (carry_then Logged on_log P g r)

module _ (scope : Scope) (s : Subject) (p : Path) where
  -- an interaction point by its numbers
  end_is : (m : Meaning) (o : Option Meaning) (x : point.Point) → point_of scope m o ≡ Some x → (r : Running Logged) → end_at p x r ≡ carried (ip_in s p m o) r
  unfolding child_step
  end_is (Ip k) None x e r = subst (λ (y : point.Point). end_at p y r ≡ carried (ip_in s p (Ip k) None) r) (let is : Own k ≡ x = cc in is) refl
  end_is (Module m) (Some (Ip k)) x e r = subst (λ (y : point.Point). end_at p y r ≡ carried (ip_in s p (Module m) (Some (Ip k))) r) (let is : OfChild m k ≡ x = cc in is) refl
  end_is _ _ x e r = absurd (cc)

  pub connect_is : (x y : tree.Ip) (a b : point.Point) (values : List Value) → point_of scope (scope.meant x.name) (meant_part scope x.part) ≡ Some a → point_of scope (scope.meant y.name) (meant_part scope y.part) ≡ Some b
      → (r : Running Logged) → connect_ends s p a b r ≡ carried (plan_of s scope.meant p (Connect x y) values) r
  connect_is x y a b values e f r = carried_then (end_at p a) (ip_in s p (scope.meant x.name) (meant_part scope x.part)) (λ u. λ q. and_then (end_at p b q) (λ v. carried (connect_points s p u v)))
      (λ u. ip_in s p (scope.meant y.name) (meant_part scope y.part) >>= λ v. connect_points s p u v)
      (end_is (scope.meant x.name) (meant_part scope x.part) a e)
      (λ u q. carried_then (end_at p b) (ip_in s p (scope.meant y.name) (meant_part scope y.part)) (λ v. carried (connect_points s p u v)) (λ v. connect_points s p u v) (end_is (scope.meant y.name) (meant_part scope y.part) b f) (λ v z. refl) q) r

  pub disconnect_is : (m : Meaning) (o : Option Meaning) (a : ends.Ends) → ends_of scope m o ≡ Some a → (r : Running Logged) → disconnect_ends s p a r ≡ carried (disconnect s p o m) r
  unfolding child_step
  disconnect_is (Module m) None a e r = subst (λ (b : ends.Ends). disconnect_ends s p b r ≡ carried (disconnect s p None (Module m)) r) (let is : Child m ≡ a = cc in is) refl
  disconnect_is (Ip k) None a e r = subst (λ (b : ends.Ends). disconnect_ends s p b r ≡ carried (disconnect s p None (Ip k)) r) (let is : Point (Own k) ≡ a = cc in is) refl
  disconnect_is (Module m) (Some (Ip k)) a e r = subst (λ (b : ends.Ends). disconnect_ends s p b r ≡ carried (disconnect s p (Some (Ip k)) (Module m)) r) (let is : Point (OfChild m k) ≡ a = cc in is)
      (carried_then (end_at p (OfChild m k)) (ip_in s p (Module m) (Some (Ip k))) (λ x. carried (disconnect_point s p x)) (disconnect_point s p) (λ q. refl) (λ x q. refl) r)
  disconnect_is _ _ a e r = absurd (cc)

  pub attach_is : (k : ℕ) (m : Meaning) (o : Option Meaning) (a : point.Point) → point_of scope m o ≡ Some a → (r : Running Logged) → attach_end s p k a r ≡ carried (attach_plan s p (Ip k) m o) r
  attach_is k m o a e r = carried_then (end_at p a) (ip_in s p m o) (λ x. carried (attach_points s (at p k) x)) (attach_points s (at p k)) (end_is m o a e) (λ x q. refl) r

  -- an output by the words of its names
  abbrev output_plan : Name → Name → Meaning → Meaning → List Value → Plan (Unit {0})
  output_plan ip m x y values = spends >>= λ taken. ip_of s p x >>= λ a. output_at s ip.word m.word y values a

  pub output_is : (n : Numbers) (body : ℕ) (ip m : Name) (k i : ℕ) (values : List Value) → scope.meant ip ≡ Ip k → IsInteraction n scope.meant body ip m k i
      → (r : Running Logged) → output_with s p k (word_of n body k) (interaction_of n body k i) values r ≡ carried (plan_of s scope.meant p (Output ip m) values) r
  output_is n body ip m k i values is h r =
      ap₂ (λ w z. output_with s p k w z values r) h.word h.interaction
      ∙ ap (λ w. carried (spends >>= λ taken. output_at s ip.word w (Interaction h.kind) values (at p k)) r) h.same
      ∙ sym (ap₂ (λ x y. carried (output_plan ip m x y values) r) is h.means)
