-- The laws of attributes, queues and heads.
use Rattle.std.proofs.Common.{◌≡◌, true, false, List, [], ◌∷◌, ◌++◌, Option, Some, None, Ok, Err, sym, refl, ap, subst, inl, inr, ◌⊎◌}
use Rattle.estelle_tree.specs.declared.kind.Kind.{Kind}
use Rattle.estelle_tree.specs.declared.kind.Kind.TheVariants as k
use Rattle.estelle_tree.specs.declared.span.Span.{Span}
use Rattle.estelle_tree.specs.declared.tree.specification.SysAttr.{SysAttr}
use Rattle.estelle_tree.specs.declared.tree.specification.SysAttr.TheVariants as a_sys_attr
use Rattle.estelle_tree.specs.declared.tree.specification.Attr.{Attr}
use Rattle.estelle_tree.specs.declared.tree.specification.Attr.TheVariants as an_attr
use Rattle.estelle_tree.specs.declared.tree.specification.Disc.{Disc}
use Rattle.estelle_tree.specs.declared.tree.specification.Disc.TheVariants as a_disc
use Rattle.estelle_tree.specs.declared.tree.specification.Head.{Head}
use Rattle.estelle_tree.specs.declared.tree.specification.Head.TheVariants as a_head
use Rattle.estelle_tree.specs.Input.{Input, kind, next, start, between}
use Rattle.estelle_tree.specs.Clauses.{stands}
use Rattle.estelle_tree.specs.Specification.{IsSysAttr, IsAttr, IsDisc, IsQueue, IsHead, of_head, AreHeads}
use Rattle.token_reader.specs.Reader.{Parser, ReadResult, and_then, pure, expect, name}
use Rattle.token_reader.specs.Lists.{optional, ended}
use Rattle.syntax_forms.specs.Kinds.{is}
use Rattle.syntax_forms.specs.Form as form
use Rattle.syntax_forms.specs.Form.{◌▸◌, ◌⊕◌}
use Rattle.syntax_forms.specs.Repeats as repeats
use Rattle.syntax_forms.specs.Reading.{one, ◌then◌, choose, closed}
use Rattle.syntax_forms.proofs.NodeForms.{IsNode}
use Rattle.syntax_forms.proofs.Lawful.{IsRead, IsLawful}
use Rattle.syntax_forms.proofs.Rules as rules
use Rattle.syntax_forms.proofs.KindLaws.{agree}
use Rattle.syntax_forms.proofs.Firsts.{kept}
use Rattle.syntax_forms.proofs.Words.{takes_first, there, refused}
use Rattle.declaration_parser.specs.Forms.{enclosed}
use Rattle.declaration_parser.specs.Attributes.{begins_default, begins_timescale, begins_head, begins_second, sys_attr, system, attr, disc, queue, default_head, timescale_head, head, listed, heads}
use Rattle.declaration_parser.specs.Productions as forms
use Rattle.declaration_parser.proofs.Forms.{enclosed_lawful}

abbrev Word : Type 0
Word = Unit {0}

-- ---- attributes

abbrev make_sys_attr : Word ⊎ Word → Span → SysAttr
make_sys_attr (inl u) span = a_sys_attr.Systemprocess span
make_sys_attr (inr u) span = a_sys_attr.Systemactivity span

-- SysAttr = systemprocess | systemactivity
pub sys_attr_lawful : IsLawful forms.sys_attr sys_attr
unfolding sys_attr
sys_attr_lawful = rules.spanned sys_attr told refl (rules.or (rules.word k.Systemprocess refl) (rules.word k.Systemactivity refl) refl refl).rest (λ i. same i (kind i) refl)
  where
    told : IsNode IsSysAttr (form.word k.Systemprocess ⊕ form.word k.Systemactivity).spells make_sys_attr
    told = record { opened = opened; made = made }
      where
        opened : (i m : Input) (s : SysAttr) → IsSysAttr s i m → (form.built make_sys_attr (form.word k.Systemprocess ⊕ form.word k.Systemactivity)).spells s i m
        opened i m (a_sys_attr.Systemprocess span) h = (inl tt, h.0, ap a_sys_attr.Systemprocess (sym h.1))
        opened i m (a_sys_attr.Systemactivity span) h = (inr tt, h.0, ap a_sys_attr.Systemactivity (sym h.1))

        made : (i m : Input) (p : Word ⊎ Word) → (form.word k.Systemprocess ⊕ form.word k.Systemactivity).spells p i m → IsSysAttr (make_sys_attr p (between i m)) i m
        made i m (inl u) t = (t, refl)
        made i m (inr u) t = (t, refl)

    same : (i : Input) (x : Kind) → kind i ≡ x → sys_attr i ≡ choose (is k.Systemprocess) (one (expect k.Systemprocess)) (one (expect k.Systemactivity)) SysAttr (closed make_sys_attr (start i)) i
    same i k.Systemprocess e = rw (e, there k.Systemprocess i e) refl
    same i k.Systemactivity e = rw (e, there k.Systemactivity i e) refl
    same i x e = rw (e, refused k.Systemactivity i (ap (is k.Systemactivity) e)) refl

abbrev make_attr : Word ⊎ (Word ⊎ SysAttr) → Span → Attr
make_attr (inl u) span = an_attr.Process span
make_attr (inr (inl u)) span = an_attr.Activity span
make_attr (inr (inr s)) span = an_attr.SysAttr s

-- Attr = SysAttr | process | activity
pub attr_lawful : IsLawful forms.attr attr
unfolding attr system
attr_lawful = rules.spanned attr told refl (rules.or (rules.word k.Process refl) (rules.or (rules.word k.Activity refl) (rules.part sys_attr_lawful) refl refl) refl refl).rest (λ i. same i (kind i) refl)
  where
    told : IsNode IsAttr (form.word k.Process ⊕ form.word k.Activity ⊕ forms.sys_attr).spells make_attr
    told = record { opened = opened; made = made }
      where
        opened : (i m : Input) (a : Attr) → IsAttr a i m → (form.built make_attr (form.word k.Process ⊕ form.word k.Activity ⊕ forms.sys_attr)).spells a i m
        opened i m (an_attr.Process span) h = (inl tt, h.0, ap an_attr.Process (sym h.1))
        opened i m (an_attr.Activity span) h = (inr (inl tt), h.0, ap an_attr.Activity (sym h.1))
        opened i m (an_attr.SysAttr s) h = (inr (inr s), h, refl)

        made : (i m : Input) (p : Word ⊎ (Word ⊎ SysAttr)) → (form.word k.Process ⊕ form.word k.Activity ⊕ forms.sys_attr).spells p i m → IsAttr (make_attr p (between i m)) i m
        made i m (inl u) t = (t, refl)
        made i m (inr (inl u)) t = (t, refl)
        made i m (inr (inr s)) h = h

    same : (i : Input) (x : Kind) → kind i ≡ x → attr i ≡ choose (is k.Process) (one (expect k.Process)) (choose (is k.Activity) (one (expect k.Activity)) (one sys_attr)) Attr (closed make_attr (start i)) i
    same i k.Process e = rw (e, there k.Process i e) refl
    same i k.Activity e = rw (e, e, there k.Activity i e) refl
    same i x e = rw (e, e) refl

-- ---- queues

abbrev make_disc : Word ⊎ Word → Span → Disc
make_disc (inl u) span = a_disc.Individual span
make_disc (inr u) span = a_disc.Common span

-- Disc = individual | common
pub disc_lawful : IsLawful forms.disc disc
unfolding disc
disc_lawful = rules.spanned disc told refl (rules.or (rules.word k.Individual refl) (rules.word k.Common refl) refl refl).rest (λ i. same i (kind i) refl)
  where
    told : IsNode IsDisc (form.word k.Individual ⊕ form.word k.Common).spells make_disc
    told = record { opened = opened; made = made }
      where
        opened : (i m : Input) (d : Disc) → IsDisc d i m → (form.built make_disc (form.word k.Individual ⊕ form.word k.Common)).spells d i m
        opened i m (a_disc.Individual span) h = (inl tt, h.0, ap a_disc.Individual (sym h.1))
        opened i m (a_disc.Common span) h = (inr tt, h.0, ap a_disc.Common (sym h.1))

        made : (i m : Input) (p : Word ⊎ Word) → (form.word k.Individual ⊕ form.word k.Common).spells p i m → IsDisc (make_disc p (between i m)) i m
        made i m (inl u) t = (t, refl)
        made i m (inr u) t = (t, refl)

    same : (i : Input) (x : Kind) → kind i ≡ x → disc i ≡ choose (is k.Individual) (one (expect k.Individual)) (one (expect k.Common)) Disc (closed make_disc (start i)) i
    same i k.Individual e = rw (e, there k.Individual i e) refl
    same i k.Common e = rw (e, there k.Common i e) refl
    same i x e = rw (e, refused k.Common i (ap (is k.Common) e)) refl

-- `Disc queue`
pub queue_lawful : IsLawful forms.queue queue
unfolding ended
queue_lawful = rules.made queue told (rules.and (rules.part disc_lawful) (rules.word k.Queue refl) refl).rest (λ i. refl)
  where
    told : IsNode IsQueue (forms.disc ▸ form.word k.Queue).spells (λ p span. p.0)
    told = record { opened = λ i m d h. ((d, tt), (h.mid, h.item, h.mark), refl); made = λ i m p h. record { mid = h.0; item = h.1; mark = h.2 } }

-- ---- heads

-- `default Disc queue ";"`
default_lawful : IsLawful forms.default_head default_head
unfolding default_head
default_lawful = rules.built a_head.Default default_head refl (rules.part (enclosed_lawful queue k.Default k.Semicolon refl refl (rules.part queue_lawful) refl)).rest (λ i. refl)

default_is : (i m : Input) (x : Head) → forms.default_head.spells x i m → IsHead x i m × (of_head x ≡ k.Default)
default_is i m x (d, h, e) = subst (λ x. IsHead x i m × (of_head x ≡ k.Default)) e ((h, refl), refl)

-- `timescale NAME ";"`
timescale_lawful : IsLawful forms.timescale_head timescale_head
unfolding timescale_head
timescale_lawful = rules.built a_head.Timescale timescale_head refl (rules.part (enclosed_lawful name k.Timescale k.Semicolon refl refl rules.name refl)).rest (λ i. refl)

timescale_is : (i m : Input) (x : Head) → forms.timescale_head.spells x i m → IsHead x i m × (of_head x ≡ k.Timescale)
timescale_is i m x (n, h, e) = subst (λ x. IsHead x i m × (of_head x ≡ k.Timescale)) e ((h, refl), refl)

abbrev either : Head ⊎ Head → Head
either (inl x) = x
either (inr x) = x

-- Head = default Disc queue ";" | timescale NAME ";"
pub head_lawful : IsLawful forms.head head
unfolding head timescale_head enclosed
head_lawful = rules.made head told (rules.or (rules.part default_lawful) (rules.part timescale_lawful) refl refl).rest (λ i. same i (kind i) refl)
  where
    told : IsNode IsHead (forms.default_head ⊕ forms.timescale_head).spells (λ p span. either p)
    told = record { opened = opened; made = made }
      where
        opened : (i m : Input) (x : Head) → IsHead x i m → (p : Head ⊎ Head) × (forms.default_head ⊕ forms.timescale_head).spells p i m × (either p ≡ x)
        opened i m (a_head.Default d span) h = (inl (a_head.Default d span), (d, h.0, ap (a_head.Default d) (sym h.1)), refl)
        opened i m (a_head.Timescale n span) h = (inr (a_head.Timescale n span), (n, h.0, ap (a_head.Timescale n) (sym h.1)), refl)

        made : (i m : Input) (p : Head ⊎ Head) → (forms.default_head ⊕ forms.timescale_head).spells p i m → IsHead (either p) i m
        made i m (inl x) h = (default_is i m x h).0
        made i m (inr x) h = (timescale_is i m x h).0

    same : (i : Input) (x : Kind) → kind i ≡ x → head i ≡ choose forms.default_head.first (one default_head) (one timescale_head) Head (λ p. pure (either p)) i
    same i k.Default e = rw e (kept (default_head i))
    same i k.Timescale e = rw e (kept (timescale_head i))
    same i x e = rw (e, refused k.Timescale i (ap (is k.Timescale) e)) refl

-- ---- `{Head}`: each form at most once

abbrev Pair : Type 0
Pair = (Head × Option Head) ⊎ (Head × Option Head)

-- a head and one of the other form
some_heads : Parser Pair
some_heads i = choose (forms.default_head ▸ repeats.may forms.timescale_head).first (one default_head then one (optional begins_timescale timescale_head)) (one timescale_head then one (optional begins_default default_head)) Pair (λ p. pure p) i

some_lawful : IsLawful forms.some_heads some_heads
unfolding some_heads
some_lawful = rules.made some_heads told (rules.or (rules.and (rules.part default_lawful) may_be_timescale refl) (rules.and (rules.part timescale_lawful) may_be_default refl) refl refl).rest (λ i. refl)
  where
    told : IsNode forms.some_heads.spells forms.some_heads.spells (λ p span. p)
    told = record { opened = λ i m p h. (p, h, refl); made = λ i m p h. h }

    may_be_default : IsRead (repeats.may forms.default_head) (one (optional begins_default default_head))
    may_be_default = rules.may begins_default default_lawful refl (agree begins_default forms.default_head.first refl) (λ i s. inr (next i, takes_first forms.default_head k.Default refl i s, inl (queue_lawful.form.nothing (next i)))) refl

    may_be_timescale : IsRead (repeats.may forms.timescale_head) (one (optional begins_timescale timescale_head))
    may_be_timescale = rules.may begins_timescale timescale_lawful refl (agree begins_timescale forms.timescale_head.first refl) (λ i s. inr (next i, takes_first forms.timescale_head k.Timescale refl i s, inl refl)) refl

make_heads : Option Pair → List Head
make_heads None = []
make_heads (Some (inl (x, y))) = x ∷ listed y
make_heads (Some (inr (x, y))) = x ∷ listed y

-- the second is of the other form
timescale_second : (a : Input) (x : Kind) → kind a ≡ x → optional (begins_second k.Default) head a ≡ optional begins_timescale timescale_head a
unfolding optional head
timescale_second a k.Timescale e = rw (e, e) refl
timescale_second a x e = rw e refl

default_second : (a : Input) (x : Kind) → kind a ≡ x → optional (begins_second k.Timescale) head a ≡ optional begins_default default_head a
unfolding optional head
default_second a k.Default e = rw (e, e) refl
default_second a x e = rw e refl

pub heads_lawful : IsLawful forms.heads heads
unfolding heads head make_heads some_heads optional stands
heads_lawful = rules.made heads told (rules.may begins_head some_lawful refl (agree begins_head forms.some_heads.first refl) (λ i s. takes i (kind i) refl s) refl).rest (λ i. same i (kind i) refl)
  where
    takes : (i : Input) (x : Kind) → kind i ≡ x → forms.some_heads.first x ≡ true → forms.some_heads.begins i (next i)
    takes i k.Default e s = inl (inl (inr (next i, record { kind = e; next = refl }, inl (queue_lawful.form.nothing (next i)))))
    takes i k.Timescale e s = inr (inl (inr (next i, record { kind = e; next = refl }, inl refl)))
    takes i _ e s = absurd (cc)

    told : IsNode AreHeads (repeats.may forms.some_heads).spells (λ o span. make_heads o)
    told = record { opened = opened; made = made }
      where
        no : true ≡ false → ⊥
        no e = cc

        opened : (i m : Input) (hs : List Head) → AreHeads hs i m → (o : Option Pair) × (repeats.may forms.some_heads).spells o i m × (make_heads o ≡ hs)
        opened i m [] h = (None, h.heads, refl)
        opened i m (a_head.Default d span ∷ []) h = let r = h.heads in (Some (inl (a_head.Default d span, None)), (r.0, (d, r.1.0, ap (a_head.Default d) (sym r.1.1)), r.2), refl)
        opened i m (a_head.Timescale n span ∷ []) h = let r = h.heads in (Some (inr (a_head.Timescale n span, None)), (r.0, (n, r.1.0, ap (a_head.Timescale n) (sym r.1.1)), r.2), refl)
        opened i m (a_head.Default d span ∷ a_head.Timescale n span' ∷ []) h =
            let r = h.heads in
            (Some (inl (a_head.Default d span, Some (a_head.Timescale n span'))), (r.0, (d, r.1.0, ap (a_head.Default d) (sym r.1.1)), subst (λ m. forms.timescale_head.spells (a_head.Timescale n span') r.0 m) r.2.2 (n, r.2.1.0, ap (a_head.Timescale n) (sym r.2.1.1))), refl)
        opened i m (a_head.Timescale n span ∷ a_head.Default d span' ∷ []) h =
            let r = h.heads in
            (Some (inr (a_head.Timescale n span, Some (a_head.Default d span'))), (r.0, (n, r.1.0, ap (a_head.Timescale n) (sym r.1.1)), subst (λ m. forms.default_head.spells (a_head.Default d span') r.0 m) r.2.2 (d, r.2.1.0, ap (a_head.Default d) (sym r.2.1.1))), refl)
        opened i m (a_head.Default d span ∷ a_head.Default d' span' ∷ hs) h = absurd (no h.once.0)
        opened i m (a_head.Timescale n span ∷ a_head.Timescale n' span' ∷ hs) h = absurd (no h.once.0)
        opened i m (a_head.Default d span ∷ a_head.Timescale n span' ∷ a_head.Default d' span'' ∷ hs) h = absurd (no h.once.0)
        opened i m (a_head.Default d span ∷ a_head.Timescale n span' ∷ a_head.Timescale n' span'' ∷ hs) h = absurd (no h.once.1.0)
        opened i m (a_head.Timescale n span ∷ a_head.Default d span' ∷ a_head.Timescale n' span'' ∷ hs) h = absurd (no h.once.0)
        opened i m (a_head.Timescale n span ∷ a_head.Default d span' ∷ a_head.Default d' span'' ∷ hs) h = absurd (no h.once.1.0)

        made : (i m : Input) (o : Option Pair) → (repeats.may forms.some_heads).spells o i m → AreHeads (make_heads o) i m
        made i m None h = record { heads = h; once = tt }
        made i m (Some (inl (x, None))) (a, h, e) = record { heads = (a, (default_is i a x h).0, e); once = (refl, tt) }
        made i m (Some (inr (x, None))) (a, h, e) = record { heads = (a, (timescale_is i a x h).0, e); once = (refl, tt) }
        made i m (Some (inl (x, Some y))) (a, h, g) =
            let one = default_is i a x h in let two = timescale_is a m y g in record { heads = (a, one.0, (m, two.0, refl)); once = (rw (one.1, two.1) refl, (refl, tt)) }
        made i m (Some (inr (x, Some y))) (a, h, g) =
            let one = timescale_is i a x h in let two = default_is a m y g in record { heads = (a, one.0, (m, two.0, refl)); once = (rw (one.1, two.1) refl, (refl, tt)) }

    paired : (side : Head × Option Head → Pair) → ((p : Head × Option Head) → make_heads (Some (side p)) ≡ p.0 ∷ listed p.1) → (first : ReadResult Head) (second other : Parser (Option Head)) → ((a : Input) → second a ≡ other a)
        → and_then (and_then first (λ x. pure (Some x))) (λ x a. and_then (second a) (λ y. pure (listed x ++ listed y))) ≡ and_then (and_then (and_then first (λ x a. and_then (other a) (λ y. pure (side (x, y))))) (λ p. pure (Some p))) (λ o. pure (make_heads o))
    paired side e (Err r) second other same = refl
    paired side e (Ok p) second other same = rw (same p.1) (by (other p.1))
      where
        by : (o : ReadResult (Option Head)) → and_then o (λ y. pure (p.0 ∷ listed y)) ≡ and_then (and_then (and_then o (λ y. pure (side (p.0, y)))) (λ p. pure (Some p))) (λ o. pure (make_heads o))
        by (Ok q) = ap (λ hs. Ok (hs, q.1)) (sym (e (p.0, q.0)))
        by (Err r) = refl

    same : (i : Input) (x : Kind) → kind i ≡ x → heads i ≡ and_then (optional begins_head some_heads i) (λ o. pure (make_heads o))
    same i k.Default e = rw (e, e) (paired (λ p. inl p) (λ p. refl) (default_head i) (optional (begins_second k.Default) head) (optional begins_timescale timescale_head) (λ a. timescale_second a (kind a) refl))
    same i k.Timescale e = rw (e, e) (paired (λ p. inr p) (λ p. refl) (timescale_head i) (optional (begins_second k.Timescale) head) (optional begins_default default_head) (λ a. default_second a (kind a) refl))
    same i x e = rw e refl
