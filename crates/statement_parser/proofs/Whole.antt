-- Whole statements, and `if`: an `else` belongs to the nearest `if` that can take it.
use Rattle.std.proofs.Common.{◌≡◌, ◌≤◌, ℕ, Bool, true, false, Option, Some, None, Ok, Err, sym, refl, ap, ◌∙◌, subst, inl, inr, ◌⊎◌, arith}
use Rattle.estelle_tree.specs.declared.kind.Kind.TheVariants as k
use Rattle.estelle_tree.specs.declared.tree.statement.Stmt.{Stmt}
use Rattle.estelle_tree.specs.Input.{Input, kind, next, left}
use Rattle.estelle_tree.specs.Spelling.{Spelling, Takes}
use Rattle.estelle_tree.specs.Beginning.{Beginning, Then, After}
use Rattle.token_reader.specs.declared.error.ReadError.TheVariants.{Refused}
use Rattle.token_reader.specs.Reader.{Parser, and_then, take, sees, ◌>>◌}
use Rattle.token_reader.specs.Lists.{optional_if, behind}
use Rattle.token_reader.proofs.Sound.{seen_is, through}
use Rattle.token_reader.proofs.Complete.{Complete, next_left_more}
use Rattle.syntax_forms.specs.Kinds.{is}
use Rattle.syntax_forms.specs.Repeats as repeats
use Rattle.syntax_forms.specs.Reading.{one, ◌then◌}
use Rattle.syntax_forms.specs.Onward.{IsOnward}
use Rattle.syntax_forms.specs.Placed.{Placed, stop}
use Rattle.syntax_forms.specs.Places.{Reach}
use Rattle.syntax_forms.proofs.KindLaws.{it_is, ends_by, or_left, or_right}
use Rattle.syntax_forms.proofs.Local.{upto, upto_takes}
use Rattle.syntax_forms.proofs.Firsts.{first_after}
use Rattle.syntax_forms.proofs.Steps.{Reached, reach_on, step, either}
use Rattle.syntax_forms.proofs.Placing.{followed_where}
use Rattle.syntax_forms.proofs.Prefixes as prefixes
use Rattle.syntax_forms.proofs.Prefixes.{Shut}
use Rattle.syntax_forms.proofs.NodeForms.{lawful_onward}
use Rattle.syntax_forms.proofs.Lawful.{IsForm, IsLast, IsLawful, Starts, Ends, Got, Keeps}
use Rattle.syntax_forms.proofs.Rules as rules
use Rattle.statement_parser.specs.Statement.{goes_on_whole, goes_on_stmt, else_over, EndsWhole}
use Rattle.statement_parser.specs.Forms as forms

-- what is known of a parser of statements: what they spell, with `true` the whole ones, and what begins them
pub record IsLevel (below : Parser Stmt) (S : Bool → Spelling Stmt) (B : Beginning) : Type 1 where
  pub law : IsLawful (forms.below S B) below
  -- no `if` at its end can take an `else`
  pub Whole : Stmt → Type 0
  pub loosened : (i j : Input) (s : Stmt) → S true s i j → S false s i j × Whole s
  pub tightened : (i j : Input) (s : Stmt) → S false s i j → Whole s → S true s i j
  pub complete : Complete below (S true) EndsWhole
  -- a statement takes an `else`, unless it is whole
  pub longer : (i j m : Input) (s : Stmt) → S false s i j → Takes k.Else j m → Whole s ⊎ B i m

module _ (below : Parser Stmt) (S : Bool → Spelling Stmt) (B : Beginning) (level : IsLevel below S B) where
  loose : (i j : Input) (s : Stmt) → S true s i j → S false s i j
  loose i j s h = (level.loosened i j s h).0

  -- what is read before an `else` is whole
  pub whole_sound : (i j : Input) (s : Stmt) → below i ≡ Ok (s, j) → kind j ≡ k.Else → S true s i j
  whole_sound i j s h e = by (level.longer i j (next j) s spelled (record { kind = e; next = refl }))
    where
      spelled : S false s i j
      spelled = level.law.sound i j s h

      by : level.Whole s ⊎ B i (next j) → S true s i j
      by (inl w) = level.tightened i j s spelled w
      by (inr b) =
          let short : stop (Ok (s, j)) ≤ left (next j) = subst (λ o. stop o ≤ left (next j)) h ((level.law.placed i).longest (next j) b) in
          let less = next_left_more j (λ n. let no : k.Nothing ≡ k.Else = sym n ∙ e in cc) in
          absurd (omega arith)

  else_last : IsLast (repeats.may (repeats.behind k.Else (forms.below S B))) (one (else_over below))
  else_last = rules.may_behind k.Else refl level.law

  -- where what comes behind a statement refuses a token, `else` comes
  else_refused : {C : Type 0} (i : Input) (f : Option Stmt → Parser C) (l : ℕ) → Keeps f → and_then (else_over below i) f ≡ Err (Refused l) → kind i ≡ k.Else
  unfolding behind
  else_refused i f l keeps e = go (sees k.Else i) refl e
    where
      go : (b : Bool) → sees k.Else i ≡ b → and_then (optional_if b (take >> below) i) f ≡ Err (Refused l) → kind i ≡ k.Else
      go true is_one e = seen_is k.Else i is_one
      go false none e = absurd (let same = keeps None i in let no : Ok (same.0, i) ≡ Err (Refused l) = sym same.1 ∙ e in cc)

  branches_form : IsForm (forms.branches S B)
  branches_form = record {
    whole = whole;
    whole_onto = λ rest i m j x h n. inr (x, m, h, n);
    apart = λ rest i m b. b;
    short = λ rest i m n b. inl b;
    nothing = λ i. inl (level.law.form.nothing i);
    shut = shut;
    starts = starts;
    first = first;
    reach = reach;
    advances = λ e. absurd (let no : true ≡ false = e in cc);
    local = local;
  }
    where
      whole : (i j : Input) (x : Stmt × Option Stmt) → forms.Branches S B x i j → (forms.branches S B).begins i j
      whole i j (s, None) h = inl (level.law.form.whole i j s h)
      whole i j (s, Some t) h = inr (s, h.0, h.1, inr (h.2.at, h.2.mark, level.law.form.whole h.2.at j t h.2.item))

      shut : Shut (forms.branches S B).begins
      shut = prefixes.part (λ i j s h. level.law.form.whole i j s (loose i j s h)) level.law.form.shut (prefixes.after k.Else level.law.form.shut)

      at_else : (a m : Input) → After k.Else B a m → (a ≡ m) ⊎ Starts (forms.branches S B) a
      at_else a m (inl same) = inl same
      at_else a m (inr t) = inr (or_right _ (is k.Else (kind a)) (it_is k.Else (kind a) t.1.kind))

      -- behind a statement that is empty
      behind_empty : (i a m : Input) → (a ≡ m) ⊎ Starts (forms.branches S B) a → ((i ≡ a) × (true ≡ true)) ⊎ Starts (forms.below S B) i → ((i ≡ m) × (true ≡ true)) ⊎ Starts (forms.branches S B) i
      behind_empty i a m e (inr s) = inr (or_left _ (is k.Else (kind i)) s)
      behind_empty i a m (inl e) (inl same) = inl (same.0 ∙ e, refl)
      behind_empty i a m (inr s) (inl same) = inr (subst (Starts (forms.branches S B)) (sym same.0) s)

      starts : (i m : Input) (x : Stmt × Option Stmt) → forms.Branches S B x i m → ((i ≡ m) × (true ≡ true)) ⊎ Starts (forms.branches S B) i
      starts i m (s, None) h = behind_empty i m m (inl refl) (level.law.form.starts i m s h)
      starts i m (s, Some t) h = behind_empty i h.0 m (at_else h.0 m (inr (h.2.at, h.2.mark, level.law.form.whole h.2.at m t h.2.item))) (level.law.form.starts i h.0 s (loose i h.0 s h.1))

      alone : {i m : Input} → ((i ≡ m) × (true ≡ true)) ⊎ Starts (forms.branches S B) i → (i ≡ m) ⊎ Starts (forms.branches S B) i
      alone (inl e) = inl e.0
      alone (inr s) = inr s

      first : (i m : Input) → (forms.branches S B).begins i m → (i ≡ m) ⊎ Starts (forms.branches S B) i
      first i m (inr (s, a, h, e)) = alone (behind_empty i a m (at_else a m e) (level.law.form.starts i a s (loose i a s h)))
      first i m (inl b) = by (level.law.form.first i m b)
        where
          by : (i ≡ m) ⊎ Starts (forms.below S B) i → (i ≡ m) ⊎ Starts (forms.branches S B) i
          by (inl e) = inl e
          by (inr s) = inr (or_left _ (is k.Else (kind i)) s)

      reach : (i m : Input) (x : Stmt × Option Stmt) → forms.Branches S B x i m → Reach i m
      reach i m (s, None) h = level.law.form.reach i m s h
      reach i m (s, Some t) h = reach_on i h.0 m (level.law.form.reach i h.0 s (loose i h.0 s h.1)) (reach_on h.0 h.2.at m (1, h.2.mark.next) (level.law.form.reach h.2.at m t h.2.item))

      local : (c i m : Input) (x : Stmt × Option Stmt) → forms.Branches S B x i m → Reach m c → forms.Branches S B x (upto c i) (upto c m)
      local c i m (s, None) h r = level.law.form.local c i m s h r
      local c i m (s, Some t) h r =
          let o = level.loosened i h.0 s h.1 in
          let item = reach_on h.2.at m c (level.law.form.reach h.2.at m t h.2.item) r in
          let rest = reach_on h.0 h.2.at c (1, h.2.mark.next) item in
          (upto c h.0, level.tightened (upto c i) (upto c h.0) s (level.law.form.local c i h.0 s o.0 rest) o.1, record { at = upto c h.2.at; mark = upto_takes c k.Else h.0 h.2.at (λ e. cc) h.2.mark item; item = level.law.form.local c h.2.at m t h.2.item r })

  pub branches_last : IsLast (forms.branches S B) (one below then one (else_over below))
  branches_last = record { form = branches_form; onward = onward; sound = sound; complete = complete; reached = reached; last = last }
    where
      -- `else` ends a whole statement
      ends_whole : (j : Input) → kind j ≡ k.Else → EndsWhole j
      ends_whole j e = ap goes_on_whole e

      else_ends : (j : Input) → Ends (forms.branches S B) j → Ends (repeats.may (repeats.behind k.Else (forms.below S B))) j
      else_ends j end = ends_by (repeats.may (repeats.behind k.Else (forms.below S B))).on goes_on_stmt refl (kind j) end

      onward : (C : Type 0) (f : Stmt × Option Stmt → Parser C) → ((x : Stmt × Option Stmt) → IsOnward (f x)) → IsOnward ((one below then one (else_over below)) C f)
      onward C f on i = step i _ (below i) _ (lawful_onward (forms.below S B) below level.law i) (λ s. else_last.onward C _ (λ t. on (s, t)))

      sound : (C : Type 0) (f : Stmt × Option Stmt → Parser C) (i j : Input) (y : C) → (one below then one (else_over below)) C f i ≡ Ok (y, j) → Got (forms.Branches S B) f i j y
      sound C f i j y h = through (below i) _ (y, j) h (λ s a e h. let g = else_last.sound C _ a j y h in by s a e g.0 g.1 g.2 g.3)
        where
          by : (s : Stmt) (a : Input) → below i ≡ Ok (s, a) → (t : Option Stmt) (m : Input) → (repeats.may (repeats.behind k.Else (forms.below S B))).spells t a m → f (s, t) m ≡ Ok (y, j) → Got (forms.Branches S B) f i j y
          by s a e None m same r = ((s, None), m, subst (λ m. S false s i m) same (level.law.sound i a s e), r)
          by s a e (Some t) m h r = ((s, Some t), m, (a, whole_sound i a s e h.mark.kind, h), r)

      complete : (C : Type 0) (f : Stmt × Option Stmt → Parser C) (i m : Input) (x : Stmt × Option Stmt) → forms.Branches S B x i m → Ends (forms.branches S B) m → (one below then one (else_over below)) C f i ≡ f x m
      complete C f i m (s, None) h end = ap (λ o. and_then o (λ s. one (else_over below) C (λ t. f (s, t)))) (level.law.complete i m s h end) ∙ else_last.complete C _ m m None refl (else_ends m end)
      complete C f i m (s, Some t) h end = ap (λ o. and_then o (λ s. one (else_over below) C (λ t. f (s, t)))) (level.complete i h.0 s h.1 (ends_whole h.0 h.2.mark.kind)) ∙ else_last.complete C _ h.0 m (Some t) h.2 (else_ends m end)

      reached : (C : Type 0) (f : Stmt × Option Stmt → Parser C) → ((x : Stmt × Option Stmt) → IsOnward (f x)) → (i m n : Input) (x : Stmt × Option Stmt) (y : C) → forms.Branches S B x i m → (m ≡ n) ⊎ Ends (forms.branches S B) m → Reached m y n (f x m) → Reached i y n ((one below then one (else_over below)) C f i)
      reached C f on i m n x y h end r = by x h r
        where
          else_end : (m ≡ n) ⊎ Ends (forms.branches S B) m → (m ≡ n) ⊎ Ends (repeats.may (repeats.behind k.Else (forms.below S B))) m
          else_end (inl e) = inl e
          else_end (inr end) = inr (else_ends m end)

          known : (s : Stmt) → S false s i m → (m ≡ n) ⊎ Ends (forms.branches S B) m → (m ≡ n) ⊎ (below i ≡ Ok (s, m))
          known s h (inl e) = inl e
          known s h (inr end) = inr (level.law.complete i m s h end)

          rest : (s : Stmt) → IsOnward (one (else_over below) C (λ t. f (s, t)))
          rest s = else_last.onward C _ (λ t. on (s, t))

          by : (x : Stmt × Option Stmt) → forms.Branches S B x i m → Reached m y n (f x m) → Reached i y n ((one below then one (else_over below)) C f i)
          by (s, None) h r = either below _ i m n s y (lawful_onward (forms.below S B) below level.law) rest (level.law.reaches i m s h) (known s h end) (else_last.reached C _ (λ t. on (s, t)) m m n None y refl (else_end end) r)
          by (s, Some t) h r = either below _ i h.0 n s y (lawful_onward (forms.below S B) below level.law) rest (level.law.reaches i h.0 s (loose i h.0 s h.1)) (inr (level.complete i h.0 s h.1 (ends_whole h.0 h.2.mark.kind))) (else_last.reached C _ (λ t. on (s, t)) h.0 m n (Some t) y h.2 (else_end end) r)

      last : (C : Type 0) (f : Stmt × Option Stmt → Parser C) → Keeps f → (i : Input) → Placed (Then B (S true) (After k.Else B)) i ((one below then one (else_over below)) C f i)
      last C f keeps i =
          followed_where below (S true) B (After k.Else B) EndsWhole i _ level.law.placed level.complete (λ m s h. level.law.form.whole i m s (loose i m s h)) (first_after EndsWhole k.Else B ends_whole)
          (λ s d e. else_last.last C _ (λ t. keeps (s, t)) d)
          (λ s d l e r. whole_sound i d s e (else_refused d _ l (λ t. keeps (s, t)) r))
