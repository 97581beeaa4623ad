-- The text of a line has one line end, its last byte.
use Rattle.std.proofs.Common.{◌≡◌, ℕ, zero, suc, ◌<◌, ◌^◌, ◌&&◌, not, Bool, true, false, List, [], ◌∷◌, ◌++◌, map, flat_map, ap, subst, ◌∙◌, sym, refl, arith, append_assoc, pos, negsuc}
use Rattle.std.specs.Prelude.{codes, ◌==◌}
use Rattle.std.specs.Fmt.{decimal}
use Rattle.std.specs.List.{AllByRecursion, list_all, join_with_byte}
use Rattle.std.specs.Cmp.Derive.{both_true}
use Rattle.std.proofs.lemmas.Bool.{false≢true}
use Rattle.std.proofs.lemmas.Bool.Decides.{nat_tests}
use Rattle.std.proofs.lemmas.List.Folds.{list_all-append}
use Rattle.pascal_values.specs.declared.fault.Fault as fault
use Rattle.pascal_values.specs.declared.value.Value.{Value, Value-F, out-Value}
use Rattle.pascal_values.specs.Texts.{text, char_text, is_printable, HasForm, IsFormed, IsReadable}
use Rattle.pascal_values.proofs.KindLemmas.{text_at, text_is, integer_in, negative_in}
use Rattle.pascal_values.proofs.UniqueLemmas.{CharCase, quote, plain, coded, char_case, members_small}
use Rattle.estelle_tree.specs.declared.transition.Pair.{Pair}
use Rattle.estelle_tree.specs.Lexed.{is_word_byte}
use Rattle.estelle_tree.specs.Paths.{Path}
use Rattle.estelle_model.specs.declared.effect.Out.{Out}
use Rattle.estelle_model.specs.declared.event.Event.TheVariants as event
use Rattle.estelle_model.specs.declared.event.End.TheVariants as end
use Rattle.estelle_model.specs.Trace.{path_text, pair_text, takes_text, values_text, out_text, fate_text, kind_text, event_lines, end_line}
use Rattle.trace_text.specs.declared.line.Line.{Line}
use Rattle.trace_text.specs.declared.line.Line.TheVariants as line
use Rattle.trace_text.specs.Forms.{IsBirth, IsPath, IsPair, IsOut}
use Rattle.trace_text.specs.Lines.{line_text, IsLine}
use Rattle.trace_text.proofs.NumberLemmas.{decimal_wordy}
use Rattle.trace_text.proofs.WordLemmas.{kind_wordy}

-- no line end in it
abbrev pub unbroken : List ℕ → Bool
unbroken t = list_all (λ c. not (c == 10)) t

pub unbroken_append : (s t : List ℕ) → unbroken s ≡ true → unbroken t ≡ true → unbroken (s ++ t) ≡ true
unbroken_append s t a b = list_all-append (λ c. not (c == 10)) s t ∙ both_true a b

word_unbroken : (w : List ℕ) → list_all is_word_byte w ≡ true → unbroken w ≡ true
word_unbroken [] e = refl
word_unbroken (c ∷ w) e = by_byte (word_unbroken w) (c == 10) refl (is_word_byte c) refl e
  where
    ten_is : (c == 10) ≡ true → c ≡ 10
    ten_is is = grind (arith, nat_tests)

    by_byte : (list_all is_word_byte w ≡ true → unbroken w ≡ true) → (ten : Bool) → (c == 10) ≡ ten → (word : Bool) → is_word_byte c ≡ word → (word && list_all is_word_byte w) ≡ true → (not ten && unbroken w) ≡ true
    by_byte others false is true is' k = others k
    by_byte others true is true is' k = absurd (false≢true (ap is_word_byte (sym (ten_is is)) ∙ is'))
    by_byte others ten is false is' k = absurd (false≢true k)

pub decimal_unbroken : (n : ℕ) → n < 2 ^ 64 → unbroken (decimal n) ≡ true
decimal_unbroken n n_in = word_unbroken (decimal n) (decimal_wordy n n_in)

-- ---- values

printed_unbroken : (c : ℕ) → is_printable c ≡ true → not (c == 10) ≡ true
printed_unbroken c e = grind (arith, nat_tests)

char_unbroken : (c : ℕ) → c < 256 → unbroken (char_text c) ≡ true
char_unbroken c c_in = by_cases (char_case c)
  where
    in_quotes : (b : Bool) → b ≡ true → (b && true) ≡ true
    in_quotes true e = refl
    in_quotes false e = cc

    by_cases : CharCase c → unbroken (char_text c) ≡ true
    by_cases (quote e is) = ap unbroken is
    by_cases (plain other e is) = ap unbroken is ∙ in_quotes (not (c == 10)) (printed_unbroken c e)
    by_cases (coded e is) = ap unbroken is ∙ unbroken_append (decimal c) (41 ∷ []) (decimal_unbroken c (omega arith)) refl

joined_unbroken : {X : Type 0} (f : X → List ℕ) (P : X → Type 0) → ((x : X) → P x → unbroken (f x) ≡ true) → (xs : List X) → AllByRecursion P xs → unbroken (join_with_byte 44 (map f xs)) ≡ true
joined_unbroken f P each [] all = refl
joined_unbroken f P each (x ∷ []) all = each x all.0
joined_unbroken f P each (x ∷ (y ∷ xs)) all = unbroken_append (f x) (44 ∷ join_with_byte 44 (map f (y ∷ xs))) (each x all.0) (joined_unbroken f P each (y ∷ xs) all.1)

abbrev AllUnbroken : (Value → Type 0) → Type 0
AllUnbroken IsPart = (v : Value) → IsPart v → unbroken (text v) ≡ true

layer_unbroken : (IsPart : Value → Type 0) → AllUnbroken IsPart → (l : Value-F Value) → IsFormed IsPart l → unbroken (text_at l) ≡ true
layer_unbroken p each Value-F.Unset h = refl
layer_unbroken p each (Value-F.Int (pos n)) h = decimal_unbroken n (omega (arith, integer_in n h))
layer_unbroken p each (Value-F.Int (negsuc n)) h = decimal_unbroken (suc n) (omega (arith, negative_in n h))
layer_unbroken p each (Value-F.Bool true) h = refl
layer_unbroken p each (Value-F.Bool false) h = refl
layer_unbroken p each (Value-F.Char c) h = char_unbroken c h
layer_unbroken p each (Value-F.Enum n) h = decimal_unbroken n (omega arith)
layer_unbroken p each (Value-F.Set ns) h = unbroken_append (join_with_byte 44 (map decimal ns)) (93 ∷ []) (joined_unbroken decimal (λ n. n < 256) (λ n n_in. decimal_unbroken n (omega arith)) ns (members_small 0 ns h)) refl
layer_unbroken p each (Value-F.Array vs) h = unbroken_append (join_with_byte 44 (map text vs)) (41 ∷ []) (joined_unbroken text p each vs h.1) refl
layer_unbroken p each (Value-F.Fields vs) h = unbroken_append (join_with_byte 44 (map text vs)) (125 ∷ []) (joined_unbroken text p each vs h.1) refl

value_unbroken : (depth : ℕ) → AllUnbroken (HasForm depth)
value_unbroken zero v h = ap unbroken (text_is v) ∙ layer_unbroken (λ _. ⊥) (λ w none. absurd none) (out-Value v) h
value_unbroken (suc depth) v h = ap unbroken (text_is v) ∙ layer_unbroken (HasForm depth) (value_unbroken depth) (out-Value v) h

-- ---- fields

each_unbroken : {X : Type 0} (f : X → List ℕ) (P : X → Type 0) → ((x : X) → P x → unbroken (f x) ≡ true) → (xs : List X) → AllByRecursion P xs → unbroken (flat_map f xs) ≡ true
each_unbroken f P each [] all = refl
each_unbroken f P each (x ∷ xs) all = unbroken_append (f x) (flat_map f xs) (each x all.0) (each_unbroken f P each xs all.1)

path_unbroken : (p : Path) → IsPath p → unbroken (path_text p) ≡ true
unfolding path_text
path_unbroken [] h = refl
path_unbroken (n ∷ p) h = each_unbroken (λ n. 47 ∷ decimal n) IsBirth (λ n b. decimal_unbroken n (omega (arith, b.1))) (n ∷ p) h

pair_unbroken : (p : Pair) → IsPair p → unbroken (pair_text p) ≡ true
pair_unbroken p h = unbroken_append (path_text p.path) (58 ∷ decimal p.trans) (path_unbroken p.path h.0) (decimal_unbroken p.trans (omega (arith, h.1.1)))

takes_unbroken : (ps : List Pair) → AllByRecursion IsPair ps → unbroken (takes_text ps) ≡ true
unfolding takes_text
takes_unbroken [] h = refl
takes_unbroken (p ∷ ps) h = unbroken_append (pair_text p) (flat_map (λ q. 32 ∷ pair_text q) ps) (pair_unbroken p h.0) (each_unbroken (λ q. 32 ∷ pair_text q) IsPair (λ q b. pair_unbroken q b) ps h.1)

values_unbroken : (vs : List Value) → AllByRecursion IsReadable vs → unbroken (values_text vs) ≡ true
unfolding values_text
values_unbroken [] h = refl
values_unbroken (v ∷ vs) h =
    unbroken_append (text v) (flat_map (λ w. 44 ∷ text w) vs ++ 41 ∷ []) (value_unbroken 200 v h.0)
    (unbroken_append (flat_map (λ w. 44 ∷ text w) vs) (41 ∷ []) (each_unbroken (λ w. 44 ∷ text w) IsReadable (λ w b. value_unbroken 200 w b) vs h.1) refl)

out_unbroken : (o : Out) → IsOut o → unbroken (out_text o) ≡ true
unfolding out_text
out_unbroken o h =
    unbroken_append (path_text o.path) (46 ∷ (o.ip ++ 32 ∷ (o.name ++ values_text o.values))) (path_unbroken o.path h.path)
    (unbroken_append o.ip (32 ∷ (o.name ++ values_text o.values)) (word_unbroken o.ip h.ip.all)
    (unbroken_append o.name (values_text o.values) (word_unbroken o.name h.name.all) (values_unbroken o.values h.values)))

kind_unbroken : (k : fault.Fault) → unbroken (kind_text k) ≡ true
kind_unbroken k = word_unbroken (kind_text k) (kind_wordy k tt)

-- ---- lines

pub record OneLine (l : Line) : Type 0 where
  pub front : List ℕ
  pub whole : unbroken front ≡ true
  pub is : line_text l ≡ front ++ 10 ∷ []

bare_start : (outs : List Out) (drops : List ℕ) → outs ≡ [] → drops ≡ [] → ◌≡◌ {A = Line} (line.Event (event.Start [] [])) (line.Event (event.Start outs drops))
bare_start outs drops e k = ap (λ os. line.Event (event.Start os [])) (sym e) ∙ ap (λ ds. line.Event (event.Start outs ds)) (sym k)

bare_fire : (m : Path) (n : ℕ) (outs : List Out) (drops : List ℕ) → outs ≡ [] → drops ≡ [] → ◌≡◌ {A = Line} (line.Event (event.Fire m n [] [])) (line.Event (event.Fire m n outs drops))
bare_fire m n outs drops e k = ap (λ os. line.Event (event.Fire m n os [])) (sym e) ∙ ap (λ ds. line.Event (event.Fire m n outs ds)) (sym k)

start_line : OneLine (line.Event (event.Start [] []))
unfolding event_lines
start_line = record { front = codes "start"; whole = refl; is = refl }

fire_line : (m : Path) (n : ℕ) → IsPath m → n < 2 ^ 64 → OneLine (line.Event (event.Fire m n [] []))
unfolding event_lines
fire_line m n h n_in = record {
  front = codes "fire " ++ (path_text m ++ 32 ∷ decimal n);
  whole = unbroken_append (path_text m) (32 ∷ decimal n) (path_unbroken m h) (decimal_unbroken n n_in);
  is = ap (λ u. codes "fire " ++ u) (sym (append_assoc (path_text m) (32 ∷ decimal n) (10 ∷ [])));
}

pub one_line : (l : Line) → IsLine l → OneLine l
unfolding event_lines end_line
one_line line.Head h = record { front = codes "estelle trace 1"; whole = refl; is = refl }
one_line (line.Event (event.Start outs drops)) h = subst OneLine (bare_start outs drops h.0 h.1) start_line
one_line (line.Event (event.Select system now takes)) h = record {
  front = codes "select " ++ (path_text system ++ (codes " now " ++ (decimal now ++ (codes " takes " ++ takes_text takes))));
  whole = unbroken_append (path_text system) (codes " now " ++ (decimal now ++ (codes " takes " ++ takes_text takes))) (path_unbroken system h.0)
      (unbroken_append (decimal now) (codes " takes " ++ takes_text takes) (decimal_unbroken now (omega (arith, h.1.1))) (takes_unbroken takes h.2.0));
  is = ap (λ u. codes "select " ++ u) (sym (append_assoc (path_text system) (codes " now " ++ (decimal now ++ (codes " takes " ++ takes_text takes))) (10 ∷ []) ∙ ap (λ u. path_text system ++ (codes " now " ++ u)) (append_assoc (decimal now) (codes " takes " ++ takes_text takes) (10 ∷ []))));
}
one_line (line.Event (event.Fire m n outs drops)) h = subst OneLine (bare_fire m n outs drops h.2 h.3) (fire_line m n h.0 (omega (arith, h.1.1)))
one_line (line.Event (event.Fault m n kind)) h = record {
  front = codes "fault " ++ (path_text m ++ 32 ∷ (decimal n ++ 32 ∷ kind_text kind));
  whole = unbroken_append (path_text m) (32 ∷ (decimal n ++ 32 ∷ kind_text kind)) (path_unbroken m h.0) (unbroken_append (decimal n) (32 ∷ kind_text kind) (decimal_unbroken n (omega (arith, h.1.1))) (kind_unbroken kind));
  is = ap (λ u. codes "fault " ++ u) (sym (append_assoc (path_text m) (32 ∷ (decimal n ++ 32 ∷ kind_text kind)) (10 ∷ []) ∙ ap (λ u. path_text m ++ 32 ∷ u) (append_assoc (decimal n) (32 ∷ kind_text kind) (10 ∷ []))));
}
one_line (line.Out o) h = record {
  front = fate_text o.lost ++ out_text o;
  whole = unbroken_append (fate_text o.lost) (out_text o) (fate_unbroken o.lost) (out_unbroken o h);
  is = sym (append_assoc (fate_text o.lost) (out_text o) (10 ∷ []));
}
  where
    fate_unbroken : (b : Bool) → unbroken (fate_text b) ≡ true
    fate_unbroken true = refl
    fate_unbroken false = refl
one_line (line.Drop n) h = record { front = codes "drop " ++ decimal n; whole = decimal_unbroken n (omega (arith, h.1)); is = refl }
one_line (line.End end.Dead) h = record { front = codes "end deadlock"; whole = refl; is = refl }
one_line (line.End end.Turns) h = record { front = codes "end turns"; whole = refl; is = refl }
one_line (line.End end.Clock) h = record { front = codes "end clock"; whole = refl; is = refl }
one_line (line.End (end.Faulted kind)) h = record { front = codes "end fault " ++ kind_text kind; whole = kind_unbroken kind; is = refl }
