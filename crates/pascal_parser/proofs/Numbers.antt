-- Places by number.
use Rattle.std.proofs.Common.{◌≡◌, ◌<◌, ◌≤◌, ◌-◌, ℕ, zero, suc, List, [], ◌∷◌, length, take, drop, get_or, length-drop, Ok, Err, sym, refl, ap, subst, Result, arith}
use Rattle.estelle_tree.specs.declared.token.Placed.{Placed}
use Rattle.estelle_tree.specs.Input.{Input, input, next, left, skip}
use Rattle.token_reader.specs.declared.error.ReadError.{ReadError}
use Rattle.token_reader.specs.declared.error.ReadError.TheVariants as read
use Rattle.token_reader.specs.Reader.{ReadResult, Reads}
use Rattle.syntax_forms.proofs.Numbers.{skip_left}
use Rattle.pascal_parser.specs.Places.{place}
use Rattle.syntax_forms.specs.Onward.{Below}
use Rattle.pascal_parser.specs.Answers.{Leaves}

-- what is left is no more than there was
pub leaves : {A : Type 0} (tokens : List Placed) (at : ℕ) (o : ReadResult A) (r : Result A ReadError) (j : Input) → at ≤ length tokens → Below (place tokens at) (suc (left (place tokens at))) o → Reads o r j → Leaves (length tokens) r j
leaves {A} tokens at o (Ok x) j inside b e =
    let c : Below (place tokens at) (suc (left (place tokens at))) (Ok (x, j)) = subst (λ o. Below (place tokens at) (suc (left (place tokens at))) o) e b in
    let less = c.fits.1 in
    let count = skip_left at tokens 0 inside in
    omega arith
leaves {A} tokens at o (Err (read.Refused l)) j inside b e =
    let refused : o ≡ Err (read.Refused l) = e (λ m. cc) in
    let c : Below {A = A} (place tokens at) (suc (left (place tokens at))) (Err (read.Refused l)) = subst (λ o. Below (place tokens at) (suc (left (place tokens at))) o) refused b in
    let less : l < suc (left (place tokens at)) = c.fits in
    let count = skip_left at tokens 0 inside in
    omega arith
leaves tokens at o (Err read.Memory) j inside b e = tt

-- ---- the tokens from a place on, in a slice

take_all : (k : ℕ) (ts : List Placed) → length ts ≤ k → take k ts ≡ ts
take_all zero [] le = refl
take_all zero (t ∷ ts) le = absurd (omega arith)
take_all (suc k) [] le = refl
take_all (suc k) (t ∷ ts) le = ap (λ ts. t ∷ ts) (take_all k ts (omega arith))

skip_one : (n : ℕ) (ts : List Placed) (end : ℕ) (other : Placed) → n < length ts → skip (suc n) (input ts end) ≡ input (drop (suc n) ts) (get_or ts n other).span.end
unfolding next
skip_one zero [] end other less = absurd (omega arith)
skip_one zero (t ∷ ts) end other less = refl
skip_one (suc n) [] end other less = absurd (omega arith)
skip_one (suc n) (t ∷ ts) end other less = skip_one n ts t.span.end other (omega arith)

pub cursor_place : (at : ℕ) (ts : List Placed) (other : Placed) → (at ≡ 0 → ⊥) → at ≤ length ts → input (take (length ts - at) (drop at ts)) (get_or ts (at - 1) other).span.end ≡ place ts at
cursor_place zero ts other some le = absurd (some refl)
cursor_place (suc n) ts other some le =
    let rest : take (length ts - suc n) (drop (suc n) ts) ≡ drop (suc n) ts = take_all (length ts - suc n) (drop (suc n) ts) (omega (arith, length-drop (suc n) ts)) in
    let before : suc n - 1 ≡ n = omega arith in
    rw (rest, before) (sym (skip_one n ts 0 other (omega arith)))
