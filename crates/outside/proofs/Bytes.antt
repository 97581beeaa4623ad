-- How the reads and writes of one call follow each other.
use Rattle.std.proofs.Common.{◌≡◌, ℕ, ◌+◌, List, [], ◌++◌, take, length, Option, Some, None, refl, sym, ap, ◌∙◌, append_assoc, length-append, arith}
use Rattle.std.proofs.Math.Seq.{take-append-add, take-length}
use Rattle.std.proofs.lemmas.List.{append-nil, take-append-le}
use Rattle.std.specs.Io.KnownBytes.{Appends, Consumes, Keeps, IsAtEnd}
use Rattle.outside.specs.Bytes.{AppendsFront}

-- before the first write nothing was added
pub Appends-none : (a : Option (List ℕ)) → Appends a a []
Appends-none None = tt
Appends-none (Some a) = sym (append-nil a)

-- two writes one after the other are one write of both texts
pub Appends-then : (a b c : Option (List ℕ)) (x y : List ℕ) → Appends a b x → Appends b c y → Appends a c (x ++ y)
Appends-then None b c x y p q = tt
Appends-then (Some a) None c x y p q = absurd p
Appends-then (Some a) (Some b) None x y p q = q
Appends-then (Some a) (Some b) (Some c) x y p q = q ∙ ap (λ (t : List ℕ). t ++ y) p ∙ append_assoc a x y

-- a failed write adds nothing, which is a prefix of any text
pub Keeps-front : (a b : Option (List ℕ)) (x : List ℕ) → Keeps a b → AppendsFront a b x
Keeps-front None b x kept = record { count = 0; within = omega arith; front = tt }
Keeps-front (Some a) None x kept = absurd kept
Keeps-front (Some a) (Some b) x kept = record { count = 0; within = omega arith; front = kept ∙ sym (append-nil a) }

-- all of a text is a prefix of it
pub Appends-front : (a b : Option (List ℕ)) (x : List ℕ) → Appends a b x → AppendsFront a b x
Appends-front a b x p = record { count = length x; within = omega arith; front = rw (take-length x) p }

-- a prefix of a text is one of a longer text
pub AppendsFront-more : (a b : Option (List ℕ)) (x y : List ℕ) → AppendsFront a b x → AppendsFront a b (x ++ y)
AppendsFront-more a b x y h = record {
  count = h.count;
  within = omega (arith, h.within, length-append x y);
  front = rw (take-append-le h.count x y h.within) h.front;
}

-- a text and a prefix of the next one are a prefix of both
pub AppendsFront-then : (a b c : Option (List ℕ)) (x y : List ℕ) → Appends a b x → AppendsFront b c y → AppendsFront a c (x ++ y)
AppendsFront-then a b c x y p h = record {
  count = length x + h.count;
  within = omega (arith, h.within, length-append x y);
  front = rw (take-append-add x y h.count) (Appends-then a b c x (take h.count y) p h.front);
}

-- before the first read nothing was taken
pub Consumes-none : (a : Option (List ℕ)) → Consumes a a []
Consumes-none None = tt
Consumes-none (Some a) = refl

-- two reads one after the other are one
pub Consumes-then : (a b c : Option (List ℕ)) (x y : List ℕ) → Consumes a b x → Consumes b c y → Consumes a c (x ++ y)
Consumes-then None b c x y p q = tt
Consumes-then (Some a) None c x y p q = absurd p
Consumes-then (Some a) (Some b) None x y p q = q
Consumes-then (Some a) (Some b) (Some c) x y p q = p ∙ ap (λ (t : List ℕ). x ++ t) q ∙ sym (append_assoc x y c)

-- a failed read takes nothing
pub Consumes-keeps : (a b c : Option (List ℕ)) (x : List ℕ) → Consumes a b x → Keeps b c → Consumes a c x
Consumes-keeps None b c x p kept = tt
Consumes-keeps (Some a) None c x p kept = absurd p
Consumes-keeps (Some a) (Some b) None x p kept = kept
Consumes-keeps (Some a) (Some b) (Some c) x p kept = p ∙ ap (λ (t : List ℕ). x ++ t) (sym kept)

-- what was read up to the end is all that was left
pub Consumes-end : (left : List ℕ) (new : Option (List ℕ)) (x : List ℕ) → Consumes (Some left) new x → IsAtEnd new → x ≡ left
Consumes-end left None x p end = absurd p
Consumes-end left (Some rest) x p end = sym (p ∙ ap (λ (t : List ℕ). x ++ t) end ∙ append-nil x)
