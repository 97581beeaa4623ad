-- The breach that is reported, put together from parts.
use Rattle.std.proofs.Common.{◌≡◌, ◌⊎◌, inl, inr, Bool, true, false, if◌then◌else◌, Option, Some, None, sym, refl, subst, arith}
use Rattle.std.proofs.lemmas.Bool.Decides.{nat_tests}
use Rattle.scope_rules.specs.declared.refusal.Breach.{Breach}
use Rattle.scope_rules.specs.Least.{is_before, noted, IsLeast, IsFirst}

pub before_self : (a : Breach) → is_before a a ≡ false
before_self a = grind (arith, nat_tests)

pub before_turned : (a b : Breach) → is_before b a ≡ true → is_before a b ≡ false
before_turned a b h = grind (arith, nat_tests)

pub before_over : (c b a : Breach) → is_before c b ≡ false → is_before b a ≡ false → is_before c a ≡ false
before_over c b a h k = grind (arith, nat_tests)

pub first_least : (P : Breach → Type 0) (b : Breach) → IsFirst P (Some b) → IsLeast P b
first_least P b f = record { broken = f.one b refl; first = λ c p. let w = f.all c p in let e : w.0 ≡ b = cc in subst (λ x. is_before c x ≡ false) e w.2 }

-- where no breach is reported, there is none
pub first_none : (P : Breach → Type 0) (o : Option Breach) → o ≡ None → IsFirst P o → (b : Breach) → P b → ⊥
first_none P o n f b p = let w = f.all b p in let e = w.1 in cc

-- the breach that is reported is the least
pub first_some : (P : Breach → Type 0) (o : Option Breach) (b : Breach) → o ≡ Some b → IsFirst P o → IsLeast P b
first_some P o b e f = first_least P b (subst (IsFirst P) e f)

pub first_of_none : (P : Breach → Type 0) → ((b : Breach) → P b → ⊥) → IsFirst P None
first_of_none P never = record { one = λ b e. absurd cc; all = λ c p. absurd (never c p) }

pub first_alone : (o : Option Breach) → IsFirst (λ c. o ≡ Some c) o
first_alone o = record { one = λ b e. e; all = λ c p. (c, p, before_self c) }

pub first_same : (P Q : Breach → Type 0) (o : Option Breach) → ((b : Breach) → P b → Q b) → ((b : Breach) → Q b → P b) → IsFirst P o → IsFirst Q o
first_same P Q o to from f = record { one = λ b e. to b (f.one b e); all = λ c q. f.all c (from c q) }

-- of two kinds of breaches, the one of the two that is reported
pub first_noted : (P Q : Breach → Type 0) (a b : Option Breach) → IsFirst P a → IsFirst Q b → IsFirst (λ c. P c ⊎ Q c) (noted a b)
first_noted P Q None None f g = record { one = λ c e. absurd cc; all = λ c h. elim h [ inl p ↦ f.all c p | inr q ↦ absurd (let w = g.all c q in let e = w.1 in cc) ] }
first_noted P Q (Some a) None f g = record { one = λ c e. inl (f.one c e); all = λ c h. elim h [ inl p ↦ f.all c p | inr q ↦ absurd (let w = g.all c q in let e = w.1 in cc) ] }
first_noted P Q None (Some b) f g = record { one = λ c e. inr (g.one c e); all = λ c h. elim h [ inl p ↦ absurd (let w = f.all c p in let e = w.1 in cc) | inr q ↦ g.all c q ] }
first_noted P Q (Some a) (Some b) f g = by (is_before b a) refl
  where
    by : (t : Bool) → is_before b a ≡ t → IsFirst (λ c. P c ⊎ Q c) (if t then Some b else Some a)
    by true e = record {
      one = λ c s. inr (g.one c s);
      all = λ c h. elim h [ inl p ↦ (let w = f.all c p in let s : a ≡ w.0 = cc in (b, refl, before_over c a b (subst (λ x. is_before c x ≡ false) (sym s) w.2) (before_turned a b e))) | inr q ↦ g.all c q ];
    }
    by false e = record {
      one = λ c s. inl (f.one c s);
      all = λ c h. elim h [ inl p ↦ f.all c p | inr q ↦ (let w = g.all c q in let s : b ≡ w.0 = cc in (a, refl, before_over c b a (subst (λ x. is_before c x ≡ false) (sym s) w.2) e)) ];
    }

pub least_first : (P : Breach → Type 0) (b : Breach) → IsLeast P b → IsFirst P (Some b)
least_first P b l = record { one = λ c e. let s : b ≡ c = cc in subst P s l.broken; all = λ c p. (b, refl, l.first c p) }
