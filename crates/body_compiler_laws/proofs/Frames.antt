-- Frames with more values behind those of the meaning: what is read of and put into the meaning's variables is the same.
use Rattle.std.proofs.Common.{◌≡◌, ◌∙◌, refl, sym, ap, subst, ℕ, zero, suc, ◌+◌, List, [], ◌∷◌, ◌++◌, length, map, take, Option, Some, None, ◌<◌, arith}
use Rattle.std.specs.Prelude.{option_map, unwrap_or, slice_get, slice_set, slice_index_or, Ok}
use Rattle.pascal_values.specs.declared.value.Value.{Value, out-Value}
use Rattle.pascal_values.specs.declared.value.Value.TheVariants as pascal
use Rattle.pascal_values.specs.declared.value.Value.TheVariants.{outs-Fields}
use Rattle.pascal_values.specs.declared.value.Value.TheOpen.{Value-F}
use Rattle.pascal_values.specs.Values.{into, parts_at, parts_of, part_of, with_parts_at, with_parts, changed_by, changed_at, with_part}
use Rattle.estelle_model.specs.States.{Logged, on_log}
use Rattle.estelle_model.specs.Steps.{Running}
use Rattle.estelle_model.specs.declared.place.Place.{Place}
use Rattle.estelle_model.specs.declared.place.Place.TheVariants.{Of, In}
use Rattle.estelle_model.specs.Places.{held}
use Rattle.estelle_model.specs.Calls.{last_or}

-- a frame with more values behind its own
abbrev pub lengthened_at : Value-F Value → Value → List Value → Value
lengthened_at (Value-F.Fields vs) v more = pascal.Fields (vs ++ more)
lengthened_at _ v more = v

abbrev pub lengthened : Value → List Value → Value
lengthened v more = lengthened_at (out-Value v) v more

-- frames with more values behind those of each
pub joined : List Value → List (List Value) → List Value
joined [] E = []
joined (v ∷ G) [] = lengthened v [] ∷ joined G []
joined (v ∷ G) (e ∷ E) = lengthened v e ∷ joined G E

-- how many variables a frame has
abbrev pub count_at : Value-F Value → Option ℕ
count_at (Value-F.Fields vs) = Some (length vs)
count_at _ = None

abbrev pub count_of : Value → Option ℕ
count_of v = count_at (out-Value v)

abbrev pub outline : List Value → List (Option ℕ)
outline frames = map count_of frames

abbrev pub IsBelow : Option ℕ → ℕ → Type 0
IsBelow None x = ⊥
IsBelow (Some n) x = x < n

abbrev pub IsBelowAt : Option (Option ℕ) → ℕ → Type 0
IsBelowAt None x = ⊥
IsBelowAt (Some n) x = IsBelow n x

-- the place is of a variable of the meaning
abbrev pub IsNamed : List (Option ℕ) → Place → Type 0
IsNamed counts (Of p x way) = Unit {0}
IsNamed counts (In f x way) = IsBelowAt (slice_get counts f) x

-- ---- lists with more behind them

none : (k : ℕ) → k < 0 → ⊥
none k h = omega (arith, h)

get_longer : (xs ys : List Value) (k : ℕ) → k < length xs → slice_get (xs ++ ys) k ≡ slice_get xs k
get_longer [] ys k h = absurd (none k h)
get_longer (x ∷ xs) ys zero h = refl
get_longer (x ∷ xs) ys (suc k) h = get_longer xs ys k (omega (arith, h))

set_longer : (xs ys : List Value) (k : ℕ) (v : Value) → k < length xs → slice_set (xs ++ ys) k v ≡ slice_set xs k v ++ ys
set_longer [] ys k v h = absurd (none k h)
set_longer (x ∷ xs) ys zero v h = refl
set_longer (x ∷ xs) ys (suc k) v h = ap (λ zs. x ∷ zs) (set_longer xs ys k v (omega (arith, h)))

set_length : (xs : List Value) (k : ℕ) (v : Value) → length (slice_set xs k v) ≡ length xs
set_length [] k v = refl
set_length (x ∷ xs) zero v = refl
set_length (x ∷ xs) (suc k) v = ap suc (set_length xs k v)

changed_longer : (xs ys : List Value) (k : ℕ) (f : Value → Value) → k < length xs → changed_at (xs ++ ys) k f ≡ changed_at xs k f ++ ys
changed_longer xs ys k f h = ap (λ o. changed_by (xs ++ ys) k o f) (get_longer xs ys k h) ∙ by (slice_get xs k)
  where
    by : (o : Option Value) → changed_by (xs ++ ys) k o f ≡ changed_by xs k o f ++ ys
    by None = refl
    by (Some v) = set_longer xs ys k (f v) h

changed_length : (xs : List Value) (k : ℕ) (f : Value → Value) → length (changed_at xs k f) ≡ length xs
changed_length xs k f = by (slice_get xs k)
  where
    by : (o : Option Value) → length (changed_by xs k o f) ≡ length xs
    by None = refl
    by (Some v) = set_length xs k (f v)

-- ---- one frame

part_longer : (v : Value) (e : List Value) (x : ℕ) (way : List ℕ) → IsBelow (count_of v) x → part_of (lengthened v e) (x ∷ way) ≡ part_of v (x ∷ way)
part_longer v e x way h = ap (λ o. into o (λ p. part_of p way)) (by (out-Value v) refl h)
  where
    by : (l : Value-F Value) → out-Value v ≡ l → IsBelow (count_at l) x → slice_get (parts_of (lengthened_at l v e)) x ≡ slice_get (parts_of v) x
    by (Value-F.Fields vs) is h = ap (λ l. slice_get (parts_at l) x) (outs-Fields (vs ++ e)) ∙ get_longer vs e x h ∙ ap (λ l. slice_get (parts_at l) x) (sym is)
    by _ is h = absurd h

with_part_longer : (v : Value) (e : List Value) (x : ℕ) (way : List ℕ) (new : Value) → IsBelow (count_of v) x → with_part (lengthened v e) (x ∷ way) new ≡ lengthened (with_part v (x ∷ way) new) e
with_part_longer v e x way new h = by (out-Value v) refl h
  where
    change : Value → Value
    change p = with_part p way new

    by : (l : Value-F Value) → out-Value v ≡ l → IsBelow (count_at l) x → with_parts (lengthened_at l v e) (changed_at (parts_of (lengthened_at l v e)) x change) ≡ lengthened (with_parts v (changed_at (parts_of v) x change)) e
    by (Value-F.Fields vs) is h =
        ap (λ l. with_parts_at l (pascal.Fields (vs ++ e)) (changed_at (parts_at l) x change)) (outs-Fields (vs ++ e))
        ∙ ap pascal.Fields (changed_longer vs e x change h)
        ∙ ap (λ l. lengthened_at l (pascal.Fields (changed_at vs x change)) e) (sym (outs-Fields (changed_at vs x change)))
        ∙ ap (λ l. lengthened (with_parts_at l v (changed_at (parts_at l) x change)) e) (sym is)
    by _ is h = absurd h

count_kept : (v : Value) (x : ℕ) (way : List ℕ) (new : Value) → IsBelow (count_of v) x → count_of (with_part v (x ∷ way) new) ≡ count_of v
count_kept v x way new h = by (out-Value v) refl h
  where
    change : Value → Value
    change p = with_part p way new

    by : (l : Value-F Value) → out-Value v ≡ l → IsBelow (count_at l) x → count_of (with_parts v (changed_at (parts_of v) x change)) ≡ count_of v
    by (Value-F.Fields vs) is h = ap (λ l. count_of (with_parts_at l v (changed_at (parts_at l) x change))) is ∙ ap count_at (outs-Fields (changed_at vs x change)) ∙ ap Some (changed_length vs x change) ∙ ap count_at (sym is)
    by _ is h = absurd h

-- ---- all frames

-- the values behind those of a frame
abbrev pub behind_at : List (List Value) → ℕ → List Value
behind_at [] f = []
behind_at (e ∷ E) zero = e
behind_at (e ∷ E) (suc f) = behind_at E f

get_joined : (G : List Value) (E : List (List Value)) (f : ℕ) → slice_get (joined G E) f ≡ option_map (λ v. lengthened v (behind_at E f)) (slice_get G f)
unfolding joined
get_joined [] E f = refl
get_joined (v ∷ G) [] zero = refl
get_joined (v ∷ G) (e ∷ E) zero = refl
get_joined (v ∷ G) [] (suc f) = get_joined G [] f
get_joined (v ∷ G) (e ∷ E) (suc f) = get_joined G E f

set_joined : (G : List Value) (E : List (List Value)) (f : ℕ) (v : Value) → slice_set (joined G E) f (lengthened v (behind_at E f)) ≡ joined (slice_set G f v) E
unfolding joined
set_joined [] E f v = refl
set_joined (w ∷ G) [] zero v = refl
set_joined (w ∷ G) (e ∷ E) zero v = refl
set_joined (w ∷ G) [] (suc f) v = ap (λ F. lengthened w [] ∷ F) (set_joined G [] f v)
set_joined (w ∷ G) (e ∷ E) (suc f) v = ap (λ F. lengthened w e ∷ F) (set_joined G E f v)

pub count_there : (G : List Value) (f x : ℕ) (v : Value) → slice_get G f ≡ Some v → IsBelowAt (slice_get (outline G) f) x → IsBelow (count_of v) x
count_there [] f x v is h = absurd h
count_there (w ∷ G) zero x v is h = subst (λ (o : Option Value). IsBelowAt (option_map count_of o) x) is h
count_there (w ∷ G) (suc f) x v is h = count_there G f x v is h

-- a variable of the meaning has the same value
pub held_joined : (p : Place) (E : List (List Value)) (s : Running Logged) → IsNamed (outline s.frames) p → held Logged on_log p (record s { frames = joined s.frames E }) ≡ held Logged on_log p s
held_joined (Of p x way) E s h = refl
held_joined (In f x way) E s h = ap (λ o. Ok (into o (λ frame. part_of frame (x ∷ way)))) (get_joined s.frames E f) ∙ ap Ok (by (slice_get s.frames f) refl)
  where
    by : (o : Option Value) → slice_get s.frames f ≡ o → into (option_map (λ v. lengthened v (behind_at E f)) o) (λ frame. part_of frame (x ∷ way)) ≡ into o (λ frame. part_of frame (x ∷ way))
    by None is = refl
    by (Some v) is = part_longer v (behind_at E f) x way (count_there s.frames f x v is h)

-- and is changed alike
pub put_joined : (f x : ℕ) (way : List ℕ) (new : Value) (E : List (List Value)) (G : List Value) → IsBelowAt (slice_get (outline G) f) x → changed_at (joined G E) f (λ frame. with_part frame (x ∷ way) new) ≡ joined (changed_at G f (λ frame. with_part frame (x ∷ way) new)) E
put_joined f x way new E G h = ap (λ o. changed_by (joined G E) f o (λ frame. with_part frame (x ∷ way) new)) (get_joined G E f) ∙ by (slice_get G f) refl
  where
    by : (o : Option Value) → slice_get G f ≡ o → changed_by (joined G E) f (option_map (λ v. lengthened v (behind_at E f)) o) (λ frame. with_part frame (x ∷ way) new) ≡ joined (changed_by G f o (λ frame. with_part frame (x ∷ way) new)) E
    by None is = refl
    by (Some v) is = ap (slice_set (joined G E) f) (with_part_longer v (behind_at E f) x way new (count_there G f x v is h)) ∙ set_joined G E f (with_part v (x ∷ way) new)

outline_set : (G : List Value) (f : ℕ) (v w : Value) → slice_get G f ≡ Some v → count_of w ≡ count_of v → outline (slice_set G f w) ≡ outline G
outline_set [] f v w is e = refl
outline_set (u ∷ G) zero v w is e = ap (λ n. n ∷ outline G) (e ∙ ap (λ o. count_of (unwrap_or o v)) (sym is))
outline_set (u ∷ G) (suc f) v w is e = ap (λ ns. count_of u ∷ ns) (outline_set G f v w is e)

-- no frame has more or fewer variables
pub outline_kept : (f x : ℕ) (way : List ℕ) (new : Value) (G : List Value) → IsBelowAt (slice_get (outline G) f) x → outline (changed_at G f (λ frame. with_part frame (x ∷ way) new)) ≡ outline G
outline_kept f x way new G h = by (slice_get G f) refl
  where
    by : (o : Option Value) → slice_get G f ≡ o → outline (changed_by G f o (λ frame. with_part frame (x ∷ way) new)) ≡ outline G
    by None is = refl
    by (Some v) is = outline_set G f v (with_part v (x ∷ way) new) is (count_kept v x way new (count_there G f x v is h))

-- ---- frames that are entered and left

pub length_joined : (G : List Value) (E : List (List Value)) → length (joined G E) ≡ length G
unfolding joined
length_joined [] E = refl
length_joined (v ∷ G) [] = ap suc (length_joined G [])
length_joined (v ∷ G) (e ∷ E) = ap suc (length_joined G E)

-- one more frame
pub joined_last : (G : List Value) (E : List (List Value)) (v : Value) (e : List Value) → length G ≡ length E → joined (G ++ v ∷ []) (E ++ e ∷ []) ≡ joined G E ++ lengthened v e ∷ []
unfolding joined
joined_last [] [] v e h = refl
joined_last [] (d ∷ E) v e h = absurd (let no : 0 ≡ suc (length E) = h in omega (arith, no))
joined_last (w ∷ G) [] v e h = absurd (let no : suc (length G) ≡ 0 = h in omega (arith, no))
joined_last (w ∷ G) (d ∷ E) v e h = ap (λ F. lengthened w d ∷ F) (joined_last G E v e (let less : suc (length G) ≡ suc (length E) = h in omega (arith, less)))

pub joined_one : (v : Value) (e : List Value) → joined (v ∷ []) (e ∷ []) ≡ lengthened v e ∷ []
unfolding joined
joined_one v e = refl

-- one frame less
pub joined_taken : (k : ℕ) (G : List Value) (E : List (List Value)) (e : List Value) → length E ≡ k → take k (joined G (E ++ e ∷ [])) ≡ joined (take k G) E
unfolding joined
joined_taken zero G [] e h = refl
joined_taken zero G (d ∷ E) e h = absurd (let no : suc (length E) ≡ 0 = h in omega (arith, no))
joined_taken (suc k) G [] e h = absurd (let no : 0 ≡ suc k = h in omega (arith, no))
joined_taken (suc k) [] (d ∷ E) e h = refl
joined_taken (suc k) (w ∷ G) (d ∷ E) e h = ap (λ F. lengthened w d ∷ F) (joined_taken k G E e (let less : suc (length E) ≡ suc k = h in omega (arith, less)))

pub outline_taken : (k : ℕ) (G : List Value) → outline (take k G) ≡ take k (outline G)
outline_taken zero G = refl
outline_taken (suc k) [] = refl
outline_taken (suc k) (v ∷ G) = ap (λ ns. count_of v ∷ ns) (outline_taken k G)

pub outline_last : (G : List Value) (v : Value) → outline (G ++ v ∷ []) ≡ outline G ++ count_of v ∷ []
outline_last [] v = refl
outline_last (w ∷ G) v = ap (λ ns. count_of w ∷ ns) (outline_last G v)

pub length_outline : (G : List Value) → length (outline G) ≡ length G
length_outline [] = refl
length_outline (v ∷ G) = ap suc (length_outline G)

-- the innermost frame
pub last_frame : (G : List Value) (f : ℕ) (v : Value) → length G ≡ suc f → slice_get G f ≡ Some (last_or v G)
last_frame [] f v h = absurd (let no : 0 ≡ suc f = h in omega (arith, no))
last_frame (w ∷ []) zero v h = refl
last_frame (w ∷ (u ∷ G)) zero v h = absurd (let no : suc (suc (length G)) ≡ 1 = h in omega (arith, no))
last_frame (w ∷ G) (suc f) v h = last_frame G f w (let less : suc (length G) ≡ suc (suc f) = h in omega (arith, less))

-- a variable that is there
pub there : (v : Value) (k : ℕ) (d : Value) → IsBelow (count_of v) k → part_of v (k ∷ []) ≡ Some (slice_index_or (parts_of v) k d)
there v k d h = by (out-Value v) h
  where
    at : (xs : List Value) (k : ℕ) → k < length xs → into (slice_get xs k) (λ p. part_of p []) ≡ Some (slice_index_or xs k d)
    at [] k h = absurd (none k h)
    at (x ∷ xs) zero h = refl
    at (x ∷ xs) (suc k) h = at xs k (omega (arith, h))

    by : (l : Value-F Value) → IsBelow (count_at l) k → into (slice_get (parts_at l) k) (λ p. part_of p []) ≡ Some (slice_index_or (parts_at l) k d)
    by (Value-F.Fields vs) h = at vs k h
    by _ h = absurd h

pub count_last : (ns : List (Option ℕ)) (n : ℕ) → slice_get (ns ++ Some n ∷ []) (length ns) ≡ Some (Some n)
count_last [] n = refl
count_last (m ∷ ns) n = count_last ns n

-- places stay named where frames are entered
pub named_longer : (ns ms : List (Option ℕ)) (p : Place) → IsNamed ns p → IsNamed (ns ++ ms) p
named_longer ns ms (Of p x way) h = h
named_longer ns ms (In f x way) h = by ns f h
  where
    by : (ns : List (Option ℕ)) (f : ℕ) → IsBelowAt (slice_get ns f) x → IsBelowAt (slice_get (ns ++ ms) f) x
    by [] f h = absurd h
    by (n ∷ ns) zero h = h
    by (n ∷ ns) (suc f) h = by ns f h

pub named_last : (ns : List (Option ℕ)) (n k : ℕ) (way : List ℕ) → k < n → IsNamed (ns ++ Some n ∷ []) (In (length ns) k way)
named_last [] n k way h = h
named_last (m ∷ ns) n k way h = named_last ns n k way h

-- ---- the values behind the innermost frame's own

get_outline : (G : List Value) (f : ℕ) → slice_get (outline G) f ≡ option_map count_of (slice_get G f)
get_outline [] f = refl
get_outline (v ∷ G) zero = refl
get_outline (v ∷ G) (suc f) = get_outline G f

last_behind : (E : List (List Value)) (own : List Value) (f : ℕ) → length E ≡ f → behind_at (E ++ own ∷ []) f ≡ own
last_behind [] own zero h = refl
last_behind [] own (suc f) h = absurd (let no : 0 ≡ suc f = h in omega (arith, no))
last_behind (e ∷ E) own zero h = absurd (let no : suc (length E) ≡ 0 = h in omega (arith, no))
last_behind (e ∷ E) own (suc f) h = last_behind E own f (let less : suc (length E) ≡ suc f = h in omega (arith, less))

get_behind : (xs ys : List Value) (i : ℕ) → slice_get (xs ++ ys) (length xs + i) ≡ slice_get ys i
get_behind [] ys i = ap (slice_get ys) (omega arith)
get_behind (x ∷ xs) ys i = ap (slice_get (x ∷ (xs ++ ys))) (let e : suc (length xs) + i ≡ suc (length xs + i) = omega arith in e) ∙ get_behind xs ys i

set_behind : (xs ys : List Value) (i : ℕ) (v : Value) → slice_set (xs ++ ys) (length xs + i) v ≡ xs ++ slice_set ys i v
set_behind [] ys i v = ap (λ k. slice_set ys k v) (omega arith)
set_behind (x ∷ xs) ys i v = ap (λ k. slice_set (x ∷ (xs ++ ys)) k v) (let e : suc (length xs) + i ≡ suc (length xs + i) = omega arith in e) ∙ ap (λ zs. x ∷ zs) (set_behind xs ys i v)

into_itself : (o : Option Value) → into o (λ p. part_of p []) ≡ o
into_itself None = refl
into_itself (Some v) = refl

-- of one frame
part_behind : (v : Value) (own : List Value) (n i : ℕ) → count_of v ≡ Some n → part_of (lengthened v own) ((n + i) ∷ []) ≡ slice_get own i
part_behind v own n i = by (out-Value v)
  where
    by : (l : Value-F Value) → count_at l ≡ Some n → part_of (lengthened_at l v own) ((n + i) ∷ []) ≡ slice_get own i
    by (Value-F.Fields vs) e = let long : length vs ≡ n = cc in ap (λ l. into (slice_get (parts_at l) (n + i)) (λ p. part_of p [])) (outs-Fields (vs ++ own)) ∙ into_itself (slice_get (vs ++ own) (n + i)) ∙ ap (λ k. slice_get (vs ++ own) (k + i)) (sym long) ∙ get_behind vs own i
    by _ e = absurd (cc)

with_part_behind : (v : Value) (own : List Value) (n i : ℕ) (w new : Value) → count_of v ≡ Some n → slice_get own i ≡ Some w → with_part (lengthened v own) ((n + i) ∷ []) new ≡ lengthened v (slice_set own i new)
with_part_behind v own n i w new e found = by (out-Value v) refl e
  where
    changed : (vs : List Value) → length vs ≡ n → changed_at (vs ++ own) (n + i) (λ p. with_part p [] new) ≡ vs ++ slice_set own i new
    changed vs long = ap (λ o. changed_by (vs ++ own) (n + i) o (λ p. with_part p [] new)) (ap (λ k. slice_get (vs ++ own) (k + i)) (sym long) ∙ get_behind vs own i ∙ found)
        ∙ ap (λ k. slice_set (vs ++ own) (k + i) new) (sym long) ∙ set_behind vs own i new

    by : (l : Value-F Value) → out-Value v ≡ l → count_at l ≡ Some n → with_part (lengthened_at l v own) ((n + i) ∷ []) new ≡ lengthened_at l v (slice_set own i new)
    by (Value-F.Fields vs) is e = let long : length vs ≡ n = cc in
        ap (λ l. with_parts_at l (pascal.Fields (vs ++ own)) (changed_at (parts_at l) (n + i) (λ p. with_part p [] new))) (outs-Fields (vs ++ own)) ∙ ap pascal.Fields (changed vs long)
    by _ is e = absurd (cc)

-- of the innermost one
pub last_part : (G : List Value) (E : List (List Value)) (own : List Value) (f n i : ℕ) → length E ≡ f → slice_get (outline G) f ≡ Some (Some n)
    → into (slice_get (joined G (E ++ own ∷ [])) f) (λ frame. part_of frame ((n + i) ∷ [])) ≡ slice_get own i
last_part G E own f n i long is = ap (λ o. into o (λ frame. part_of frame ((n + i) ∷ []))) (get_joined G (E ++ own ∷ []) f ∙ ap (λ e. option_map (λ v. lengthened v e) (slice_get G f)) (last_behind E own f long)) ∙ by (slice_get G f) (sym (get_outline G f) ∙ is)
  where
    by : (o : Option Value) → option_map count_of o ≡ Some (Some n) → into (option_map (λ v. lengthened v own) o) (λ frame. part_of frame ((n + i) ∷ [])) ≡ slice_get own i
    by None e = absurd (cc)
    by (Some v) e = part_behind v own n i (let count : count_of v ≡ Some n = cc in count)

set_last : (G : List Value) (E : List (List Value)) (own new : List Value) (f : ℕ) (v : Value) → length E ≡ f → slice_get G f ≡ Some v → slice_set (joined G (E ++ own ∷ [])) f (lengthened v new) ≡ joined G (E ++ new ∷ [])
unfolding joined
set_last [] E own new f v long is = absurd (cc)
set_last (w ∷ G) [] own new zero v long is = ap (λ u. lengthened u new ∷ joined G []) (let e : v ≡ w = cc in e)
set_last (w ∷ G) [] own new (suc f) v long is = absurd (let no : 0 ≡ suc f = long in omega (arith, no))
set_last (w ∷ G) (e ∷ E) own new zero v long is = absurd (let no : suc (length E) ≡ 0 = long in omega (arith, no))
set_last (w ∷ G) (e ∷ E) own new (suc f) v long is = ap (λ F. lengthened w e ∷ F) (set_last G E own new f v (let less : suc (length E) ≡ suc f = long in omega (arith, less)) is)

pub last_changed : (G : List Value) (E : List (List Value)) (own : List Value) (f n i : ℕ) (w new : Value) → length E ≡ f → slice_get (outline G) f ≡ Some (Some n) → slice_get own i ≡ Some w
    → changed_at (joined G (E ++ own ∷ [])) f (λ frame. with_part frame ((n + i) ∷ []) new) ≡ joined G (E ++ slice_set own i new ∷ [])
last_changed G E own f n i w new long is found =
    ap (λ o. changed_by (joined G (E ++ own ∷ [])) f o change) (get_joined G (E ++ own ∷ []) f ∙ ap (λ e. option_map (λ v. lengthened v e) (slice_get G f)) (last_behind E own f long)) ∙ by (slice_get G f) refl (sym (get_outline G f) ∙ is)
  where
    change : Value → Value
    change frame = with_part frame ((n + i) ∷ []) new

    by : (o : Option Value) → slice_get G f ≡ o → option_map count_of o ≡ Some (Some n) → changed_by (joined G (E ++ own ∷ [])) f (option_map (λ v. lengthened v own) o) change ≡ joined G (E ++ slice_set own i new ∷ [])
    by None e h = absurd (cc)
    by (Some v) e h = ap (slice_set (joined G (E ++ own ∷ [])) f) (with_part_behind v own n i w new (let count : count_of v ≡ Some n = cc in count) found) ∙ set_last G E own (slice_set own i new) f v long e
