-- The laws of each way of putting parts together, in the order in which a production has them.
use Rattle.std.proofs.Common.{◌≡◌, ℕ, Bool, true, false, [], Option, Some, refl, sym, ap, ◌∙◌, subst, inr, arith}
use Rattle.std.proofs.Math.Path.{fun_ext}
use Rattle.std.specs.Option.{is_some}
use Rattle.std.specs.Prelude.{◌||◌}
use Rattle.estelle_tree.specs.declared.kind.Kind.{Kind}
use Rattle.estelle_tree.specs.declared.kind.Kind.TheVariants as k
use Rattle.estelle_tree.specs.declared.span.Span.{Span}
use Rattle.estelle_tree.specs.Input.{Input, kind, next, start, between, over}
use Rattle.estelle_tree.specs.Spelling.{Spelling, Behind, Ended}
use Rattle.token_reader.specs.Reader.{Parser, and_then, pure, sees, ◌>>◌, take, expect}
use Rattle.token_reader.specs.Lists as lists
use Rattle.token_reader.specs.Lists.{optional_if, ended}
use Rattle.token_reader.proofs.Sound.{seen_is, ok_pair}
use Rattle.token_reader.proofs.Complete.{unique}
use Rattle.syntax_forms.specs.Kinds.{is, Apart}
use Rattle.syntax_forms.specs.Form as form
use Rattle.syntax_forms.specs.Repeats as repeats
use Rattle.syntax_forms.specs.Form.{Form, ◌▸◌, ◌⊕◌}
use Rattle.syntax_forms.specs.Reading.{Reading, one, ◌then◌, choose, levelled, closed, enclosed}
use Rattle.syntax_forms.specs.Places.{Reach}
use Rattle.syntax_forms.proofs.Lawful.{Ends, IsLast, IsRead, IsLawful, Follows, Starts}
use Rattle.syntax_forms.proofs.RowForms.{then_last, then_read}
use Rattle.syntax_forms.proofs.ChoiceForms.{choice_last, choice_read, level_read}
use Rattle.syntax_forms.proofs.ListForms.{separated_read}
use Rattle.syntax_forms.proofs.StepForms.{may_last, many_read, optional_step, optional_read}
use Rattle.syntax_forms.proofs.BehindForms.{marked_step, behind_step}
use Rattle.syntax_forms.proofs.SeveralForms.{several_read}
use Rattle.syntax_forms.proofs.KindLaws.{is_it}
use Rattle.syntax_forms.proofs.Firsts.{alike, kept}
use Rattle.syntax_forms.proofs.Words.{there}
use Rattle.syntax_forms.proofs.Local.{upto, upto_end, reach_left, upto_span, upto_over}
use Rattle.syntax_forms.proofs.NodeForms.{IsSpanned, IsNode, node_lawful, part_read}
pub use Rattle.syntax_forms.proofs.TokenForms.{word_read as word, name_read as name, number_read as number, char_read as char}
pub use Rattle.syntax_forms.proofs.MarkForms.{flag_read as flag, mark_read as mark}

-- the one and then the other; the last is followed by nothing
module _ {A B : Type 0} {F : Form A} {G : Form B} {s : Reading A} {t : Reading B} where
  pub and : IsRead F s → IsRead G t → Follows F G → IsRead (F ▸ G) (s then t)
  and first second follows = then_read F G first.form second.form s t first follows second

  pub and_last : IsRead F s → IsLast G t → Follows F G → IsLast (F ▸ G) (s then t)
  and_last first second follows = then_last F G first.form second.form s t first follows second

  -- the one or the other
  pub or : IsRead F s → IsRead G t → (F.empty || G.empty) ≡ false → Apart F.first G.first → IsRead (F ⊕ G) (choose F.first s t)
  or first second some differ = choice_read F G first.form second.form s t some differ first second

  pub or_last : IsLast F s → IsLast G t → (F.empty || G.empty) ≡ false → Apart F.first G.first → IsLast (F ⊕ G) (choose F.first s t)
  or_last first second some differ = choice_last F G first.form second.form s t some differ first second

-- a part that a parser of its own reads
pub part : {A : Type 0} {F : Form A} {p : Parser A} → IsLawful F p → IsRead (form.part F) (one p)
part {F = F} {p = p} law = part_read F p law

-- `x {k x}`
pub separated : {A : Type 0} {F : Form A} {p : Parser A} (k' : Kind) → IsLawful F p → is k' k.Nothing ≡ false → F.on k' ≡ false → IsRead (form.separated k' F) (one (lists.separated k' p))
separated {F = F} {p = p} k' law = separated_read k' F p law

-- a node of its parts and its span
pub spanned : {P N : Type 0} {outer : Spelling N} {F : Form P} {make : P → Span → N} {s : Reading P} (p : Parser N)
    → IsNode outer F.spells make → F.empty ≡ false → IsLast F s → ((i : Input) → p i ≡ s N (closed make (start i)) i) → IsLawful (form.node outer F) p
unfolding between
spanned {outer = outer} {F = F} {make = make} {s = s} p told some read same = node_lawful between outer F make told far s read p (λ i. closed make (start i)) same (λ i m x. refl)
  where
    far : (c i m : Input) (x : _) → F.spells x i m → Reach m c → make x (between (upto c i) (upto c m)) ≡ make x (between i m)
    far c i m x h r =
        let less = read.form.advances some i m x h in
        let rest = reach_left m c r in
        ap (make x) (upto_span c i m (omega arith))

-- a node that is made of them and of nothing else
pub built : {P N : Type 0} {F : Form P} {s : Reading P} (make : P → Span → N) (p : Parser N) → F.empty ≡ false → IsLast F s → ((i : Input) → p i ≡ s N (closed make (start i)) i) → IsLawful (form.built make F) p
built make p some read same = spanned {make = make} p (record { opened = λ i m n h. h; made = λ i m x h. (x, h, refl) }) some read same

-- a node of its parts alone
pub made : {P N : Type 0} {outer : Spelling N} {F : Form P} {make : P → N} {s : Reading P} (p : Parser N)
    → IsNode outer F.spells (λ x span. make x) → IsLast F s → ((i : Input) → p i ≡ s N (λ x. pure (make x)) i) → IsLawful (form.node outer F) p
made {outer = outer} {F = F} {make = make} {s = s} p told read same = node_lawful between outer F (λ x span. make x) told (λ c i m x h r. refl) s read p (λ i x. pure (make x)) same (λ i m x. refl)

-- a node of its parts and of a span that is empty where they are
pub covered : {P N : Type 0} {outer : Spelling N} {F : Form P} {make : P → Span → N} {s : Reading P} (p : Parser N)
    → IsSpanned over outer F.spells make → IsLast F s → ((i : Input) → p i ≡ s N (enclosed make i) i) → IsLawful (form.node outer F) p
unfolding over between
covered {outer = outer} {F = F} {make = make} {s = s} p told read same =
    node_lawful over outer F make told (λ c i m x h r. ap (make x) (upto_over c i m (read.form.reach i m x h) r)) s read p (enclosed make) same (λ i m x. refl)

-- `k x`, where k opens a level of nesting
pub level : {A : Type 0} {F : Form A} {s : Reading A} (room : ℕ) (k' : Kind) → is k' k.Nothing ≡ false → IsRead F s → IsRead (form.level room k' F) (levelled room k' s)
level {F = F} {s = s} room k' is_token read = level_read room k' F read.form s is_token read

-- `x ";"`
pub line : {A : Type 0} {F : Form A} {p : Parser A} → IsLawful F p → Follows F (form.word k.Semicolon) → IsLawful (form.line F) (ended k.Semicolon p)
unfolding ended
line {A} {F} {p} law follows = made (ended k.Semicolon p) told (and (part law) (word k.Semicolon refl) follows).rest (λ i. refl)
  where
    told : IsNode (Ended k.Semicolon F.spells) (form.part F ▸ form.word k.Semicolon).spells (λ x span. x.0)
    told = record { opened = λ i m x h. ((x, tt), (h.mid, h.item, h.mark), refl); made = λ i m x h. record { mid = h.0; item = h.1; mark = h.2 } }

-- `{x}+`
pub several : {A : Type 0} {F : Form A} {p : Parser A} (begins : Kind → Bool) → IsLawful F p → F.empty ≡ false → Follows F F → F.first k.Nothing ≡ false → ((x : Kind) → begins x ≡ F.first x) → ((i : Input) → Starts F i → F.begins i (next i))
    → IsRead (form.several F) (one (lists.several begins p))
several {F = F} {p = p} begins law some follows none tells takes = several_read F p law some follows none begins tells takes

-- of things that the tokens from a place on spell, where nothing that comes next goes on with them, there is one at most
pub one_ended : {A : Type 0} {F : Form A} {p : Parser A} → IsLawful F p → (x y : A) (i j m : Input) → F.spells x i j → F.spells y i m → Ends F j → Ends F m → (x ≡ y) × (j ≡ m)
one_ended {F = F} {p = p} law x y i j m a b end end' =
    let same = unique p F.spells (Ends F) law.complete x y i j m a b end end' in
    (ap (λ p. p.0) same, ap (λ p. p.1) same)

-- at most one thing is spelled by the tokens between two places
pub at_most_one : {A : Type 0} {F : Form A} {p : Parser A} → IsLawful F p → F.on k.Nothing ≡ false → (x y : A) (i j : Input) → F.spells x i j → F.spells y i j → x ≡ y
at_most_one {F = F} {p = p} law ends x y i j a b =
    let c = law.form.local j i j x a (0, refl) in
    let d = law.form.local j i j y b (0, refl) in
    let end : F.on (kind (upto j j)) ≡ false = rw (upto_end j) ends in
    ap (λ p. p.0) (ok_pair x y (upto j j) (upto j j) (sym (law.complete (upto j i) (upto j j) x c end) ∙ law.complete (upto j i) (upto j j) y d end))

-- `[o x]` and `{o x}`, where several terminals can stand
module _ {O A : Type 0} {F : Form A} {p : Parser A} (of : Kind → Option O) (kinds : O → Kind) (forth : (o : O) → of (kinds o) ≡ Some o) (back : (kind' : Kind) (o : O) → of kind' ≡ Some o → kind' ≡ kinds o) where
  pub may_marked : is_some (of k.Nothing) ≡ false → IsLawful F p → IsLast (repeats.may (repeats.marked of kinds F)) (one (lists.marked of p))
  may_marked is_token law = may_last (repeats.marked of kinds F) (lists.marked of p) (marked_step of kinds forth back is_token F p law) refl

  pub many_marked : is_some (of k.Nothing) ≡ false → IsLawful F p → Follows (repeats.marked of kinds F) (repeats.marked of kinds F) → IsRead (repeats.many (repeats.marked of kinds F)) (one (lists.repeated (lists.marked of p) []))
  many_marked is_token law follows = many_read (repeats.marked of kinds F) (lists.marked of p) (marked_step of kinds forth back is_token F p law) refl follows

-- `[k x]`
pub may_behind : {A : Type 0} {F : Form A} {p : Parser A} (k' : Kind) → is k' k.Nothing ≡ false → IsLawful F p → IsLast (repeats.may (repeats.behind k' F)) (one (lists.behind k' p))
may_behind {F = F} {p = p} k' is_token law = may_last (repeats.behind k' F) (lists.behind k' p) (behind_step k' is_token F p law) refl

-- `[x]`, where the next terminal tells whether x is there
pub may : {A : Type 0} {F : Form A} {p : Parser A} (begins : Kind → Bool) → IsLawful F p → F.empty ≡ false → ((x : Kind) → begins x ≡ F.first x) → ((i : Input) → Starts F i → F.begins i (next i)) → F.first k.Nothing ≡ false → IsRead (repeats.may (form.part F)) (one (lists.optional begins p))
may {F = F} {p = p} begins law some tells takes none = optional_read F p law some begins tells takes none

-- `{x}`
pub many : {A : Type 0} {F : Form A} {p : Parser A} (begins : Kind → Bool) → IsLawful F p → F.empty ≡ false → ((x : Kind) → begins x ≡ F.first x) → ((i : Input) → Starts F i → F.begins i (next i)) → F.first k.Nothing ≡ false → Follows F F → IsRead (repeats.many (form.part F)) (one (lists.repeated (lists.optional begins p) []))
many {F = F} {p = p} begins law some tells takes none follows = many_read (form.part F) (lists.optional begins p) (optional_step F p law some begins tells takes none) some follows

-- `[k x]`, and what comes next
pub behind : {A : Type 0} {F : Form A} (p : Parser A) (k' : Kind) → is k' k.Nothing ≡ false → IsRead F (one p) → IsRead (repeats.may (form.node (Behind k' F.spells) (form.word k' ▸ F))) (one (lists.behind k' p))
unfolding lists.optional lists.behind sees
behind {A} {F = F} p k' is_token read = subst (λ (q : Parser (Option A)). IsRead (repeats.may (form.node (Behind k' F.spells) (form.word k' ▸ F))) (one q)) (fun_ext same) (may (is k') law refl tells takes (sym (tells k.Nothing) ∙ is_token))
  where
    told : IsNode (Behind k' F.spells) (form.word k' ▸ F).spells (λ p span. p.1)
    told = record { opened = λ i m x h. ((tt, x), (h.at, h.mark, h.item), refl); made = λ i m p h. record { at = h.0; mark = h.1; item = h.2 } }

    law : IsLawful (form.node (Behind k' F.spells) (form.word k' ▸ F)) (λ i. and_then (expect k' i) (λ u. p))
    law = made (λ i. and_then (expect k' i) (λ u. p)) told (and (word k' is_token) read refl).rest (λ i. alike (expect k' i) _ _ (λ u a. kept (p a)))

    tells : (x : Kind) → is k' x ≡ (is k' x || false)
    tells x = by (is k' x)
      where
        by : (b : Bool) → b ≡ (b || false)
        by true = refl
        by false = refl

    takes : (i : Input) → (is k' (kind i) || false) ≡ true → (form.word k' ▸ F).begins i (next i)
    takes i s = inr (next i, record { kind = is_it k' (kind i) (tells (kind i) ∙ s); next = refl }, read.form.nothing (next i))

    same : (i : Input) → lists.optional (is k') (λ i. and_then (expect k' i) (λ u. p)) i ≡ lists.behind k' p i
    same i = by (sees k' i) refl
      where
        by : (b : Bool) → sees k' i ≡ b → optional_if b (λ i. and_then (expect k' i) (λ u. p)) i ≡ optional_if b (take >> p) i
        by true e = rw (there k' i (seen_is k' i e)) refl
        by false e = refl
