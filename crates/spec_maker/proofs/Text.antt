-- The text is the canonical one of these tokens, and not long.
use Rattle.std.proofs.Common.{◌≡◌, ℕ, zero, suc, ◌+◌, ◌-◌, ◌*◌, ◌^◌, ◌<◌, ◌≤◌, List, [], ◌∷◌, ◌++◌, length, refl, sym, ap, ◌∙◌, append_assoc, length-append, arith}
use Rattle.std.specs.Prelude.{codes}
use Rattle.std.specs.List.{concat}
use Rattle.std.specs.Fmt.{decimal, digits}
use Rattle.std.proofs.lemmas.Fmt.{length-decimal-le}
use Rattle.estelle_tree.specs.declared.token.Token.{Token}
use Rattle.estelle_tree.specs.declared.kind.Kind.TheVariants as k
use Rattle.estelle_printer.specs.Canonical.{written, gap_after, line_feed, canonical}
use Rattle.estelle_printer.specs.Forms.{Tokens}
use Rattle.estelle_printer.specs.Terminals.{terminal}
use Rattle.estelle_printer.proofs.WritingLemmas.{spaced}
use Rattle.spec_maker.specs.Ring.{each, common_part, station, variables, start, link, links, ring}
use Rattle.spec_maker.proofs.Tokens.{dot, common_tokens, variable_tokens, start_tokens, link_tokens, next_tokens, middle_tokens, last_tokens, joined_parts, ring_tokens}

-- each token with what stands behind it, and then a text
abbrev written_before : List ℕ → Tokens → List ℕ
written_before rest [] = rest
written_before rest (t ∷ ts) = written t ++ gap_after t ∷ written_before rest ts

canonical_is : (ts : Tokens) (u : Token) → canonical (ts ++ u ∷ []) ≡ written_before (written u ++ line_feed ∷ []) ts
canonical_is [] u = refl
canonical_is (t ∷ ts) u = spaced t ts u ∙ ap (λ r. written t ++ gap_after t ∷ r) (canonical_is ts u)

written_append : (rest : List ℕ) (ts us : Tokens) → written_before rest (ts ++ us) ≡ written_before (written_before rest us) ts
written_append rest [] us = refl
written_append rest (t ∷ ts) us = ap (λ r. written t ++ gap_after t ∷ r) (written_append rest ts us)

written_each : (f : ℕ → Tokens) (g : ℕ → List ℕ) (n : ℕ) → ((i : ℕ) (rest : List ℕ) → written_before rest (f i) ≡ g i ++ rest) → (rest : List ℕ) → written_before rest (each f n) ≡ each g n ++ rest
written_each f g zero h rest = refl
written_each f g (suc n) h rest =
    written_append rest (each f n) (f (suc n)) ∙ ap (λ r. written_before r (each f n)) (h (suc n) rest) ∙ written_each f g n h (g (suc n) ++ rest) ∙ sym (append_assoc (each g n) (g (suc n)) rest)

-- ---- the parts

common_written : (rest : List ℕ) → written_before rest common_tokens ≡ common_part ++ rest
unfolding common_part digits
common_written rest = refl

abbrev variable_text : ℕ → List ℕ
variable_text i = station i ++ codes " , "

abbrev next_text : ℕ → List ℕ
next_text i = link i (i + 1) ++ codes " ;\n"

variable_written : (i : ℕ) (rest : List ℕ) → written_before rest (variable_tokens i) ≡ variable_text i ++ rest
variable_written i rest = simp append_assoc

start_written : (i : ℕ) (rest : List ℕ) → written_before rest (start_tokens i) ≡ start i ++ rest
start_written i rest = simp append_assoc

link_written : (i j : ℕ) (rest : List ℕ) → written_before rest (link_tokens i j) ≡ link i j ++ (codes " " ++ rest)
link_written i j rest =
    let left = codes " . left" in
    let behind = codes " " ++ rest in
    ap (λ t. codes "connect s" ++ t) (sym (append_assoc (decimal i) (codes " . right to s" ++ (decimal j ++ left)) behind
    ∙ ap (λ t. decimal i ++ (codes " . right to s" ++ t)) (append_assoc (decimal j) left behind)))

next_written : (i : ℕ) (rest : List ℕ) → written_before rest (next_tokens i) ≡ next_text i ++ rest
next_written i rest = link_written i (i + 1) (codes ";\n" ++ rest) ∙ sym (append_assoc (link i (i + 1)) (codes " ;\n") rest)

middle_written : (n : ℕ) (rest : List ℕ) → written_before rest (middle_tokens n) ≡ station n ++ (codes " : station ;\ninitialize begin " ++ rest)
middle_written n rest = refl

last_written : (n : ℕ) → written_before (codes ".\n") (last_tokens n) ≡ link n 1 ++ codes " end ;\nend .\n"
last_written n = link_written n 1 (codes "end ;\nend .\n")

-- ---- the whole

-- what follows the last `end` goes to the end of the tokens
moved : (a b c d e f us : Tokens) → joined_parts a b c d e (f ++ us) ≡ joined_parts a b c d e f ++ us
moved a b c d e f us = simp append_assoc

parts_written : (rest : List ℕ) (a b c d e f : Tokens) → written_before rest (joined_parts a b c d e f)
    ≡ written_before (codes "modvar " ++ written_before (written_before (written_before (written_before (written_before rest f) e) d) c) b) a
parts_written rest a b c d e f =
    let inner = written_append rest b (c ++ (d ++ (e ++ f)))
    ∙ ap (λ r. written_before r b) (written_append rest c (d ++ (e ++ f))
    ∙ ap (λ r. written_before r c) (written_append rest d (e ++ f)
    ∙ ap (λ r. written_before r d) (written_append rest e f))) in
    written_append rest a (terminal k.Modvar ∷ (b ++ (c ++ (d ++ (e ++ f))))) ∙ ap (λ r. written_before (codes "modvar " ++ r) a) inner

-- the text behind what does not depend on how many stations there are, with its pieces in a row
abbrev in_a_row : ℕ → List ℕ
in_a_row n = codes "modvar " ++ (each variable_text (n - 1) ++ (station n ++ (codes " : station ;\ninitialize begin " ++ (each start n ++ (each next_text (n - 1) ++ (link n 1 ++ codes " end ;\nend .\n"))))))

regrouped : (n : ℕ) → in_a_row n ≡ concat (variables n ∷ codes "initialize begin " ∷ each start n ∷ links n ∷ codes " end ;\nend .\n" ∷ [])
regrouped n = simp append_assoc

pub ring_text : (n : ℕ) → canonical (ring_tokens n) ≡ ring n
unfolding ring
ring_text n =
    let v = each variable_tokens (n - 1) in
    let c = middle_tokens n in
    let s = each start_tokens n in
    let x = each next_tokens (n - 1) in
    let l = last_tokens n in
    let behind_links : written_before (written_before (codes ".\n") l) x ≡ each next_text (n - 1) ++ (link n 1 ++ codes " end ;\nend .\n") =
    written_each next_tokens next_text (n - 1) next_written (written_before (codes ".\n") l) ∙ ap (λ r. each next_text (n - 1) ++ r) (last_written n) in
    let behind_starts : written_before (written_before (written_before (codes ".\n") l) x) s ≡ each start n ++ (each next_text (n - 1) ++ (link n 1 ++ codes " end ;\nend .\n")) =
    written_each start_tokens start n start_written (written_before (written_before (codes ".\n") l) x) ∙ ap (λ r. each start n ++ r) behind_links in
    let behind_middle : written_before (written_before (written_before (written_before (codes ".\n") l) x) s) c ≡ station n ++ (codes " : station ;\ninitialize begin " ++ (each start n ++ (each next_text (n - 1) ++ (link n 1 ++ codes " end ;\nend .\n")))) =
    ap (λ r. written_before r c) behind_starts in
    let rest = written_before (written_before (written_before (written_before (codes ".\n") l) x) s) c in
    let behind_variables : codes "modvar " ++ written_before rest v ≡ in_a_row n =
    ap (λ r. codes "modvar " ++ r) (written_each variable_tokens variable_text (n - 1) variable_written rest ∙ ap (λ r. each variable_text (n - 1) ++ r) behind_middle) in
    ap canonical (moved common_tokens v c s x l (dot ∷ []))
    ∙ canonical_is (joined_parts common_tokens v c s x l) dot
    ∙ parts_written (codes ".\n") common_tokens v c s x l
    ∙ ap (λ r. written_before r common_tokens) (behind_variables ∙ regrouped n)
    ∙ common_written _

-- ---- its length

each_short : (f : ℕ → List ℕ) (n : ℕ) → ((i : ℕ) → i ≤ n → length (f i) ≤ 100) → length (each f n) ≤ 100 * n
each_short f zero h = omega arith
each_short f (suc n) h =
    let before = each_short f n (λ i low. h i (omega arith)) in
    let here = h (suc n) (omega arith) in
    omega (arith, length-append (each f n) (f (suc n)))

-- a number has at most three digits
short : (i : ℕ) → i ≤ 200 → length (decimal i) ≤ 3
short i few = length-decimal-le 3 i (omega arith) (omega arith) (omega arith)

variable_short : (i : ℕ) → i ≤ 200 → length (variable_text i) ≤ 100
variable_short i few = let d = short i few in simp length-append (omega arith)

start_short : (i : ℕ) → i ≤ 200 → length (start i) ≤ 100
start_short i few = let d = short i few in simp length-append (omega arith)

link_short : (i j : ℕ) → i ≤ 200 → j ≤ 200 → length (link i j) ≤ 100
link_short i j few less = let d = short i few in let e = short j less in simp length-append (omega arith)

next_short : (i : ℕ) → i + 1 ≤ 200 → length (next_text i) ≤ 100
next_short i few = let d = short i (omega arith) in let e = short (i + 1) few in simp length-append (omega arith)

common_short : length common_part ≤ 1000
unfolding common_part
common_short = omega arith

pub ring_short : (n : ℕ) → 1 ≤ n → n ≤ 200 → length (ring n) < 2 ^ 31
unfolding ring
ring_short n some few =
    let common = common_short in
    let variables_low = each_short variable_text (n - 1) (λ i low. variable_short i (omega arith)) in
    let starts_low = each_short start n (λ i low. start_short i (omega arith)) in
    let nexts_low = each_short next_text (n - 1) (λ i low. next_short i (omega arith)) in
    let last_low = link_short n 1 few (omega arith) in
    let own = short n few in
    let first = short 1 (omega arith) in
    simp length-append (omega arith)
