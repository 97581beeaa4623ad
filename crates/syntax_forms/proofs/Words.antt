-- The terminal that comes next, read or refused.
use Rattle.std.proofs.Common.{◌≡◌, true, false, Ok, refl}
use Rattle.std.specs.Prelude.{◌||◌, not}
use Rattle.estelle_tree.specs.declared.kind.Kind.{Kind}
use Rattle.estelle_tree.specs.Input.{Input, kind, next}
use Rattle.estelle_tree.specs.Spelling.{Takes}
use Rattle.token_reader.specs.Reader.{refuse, expect}
use Rattle.token_reader.proofs.Complete.{unseen, expect_complete}
use Rattle.syntax_forms.specs.Form.{Form}
use Rattle.syntax_forms.specs.Kinds.{is, of_all}
use Rattle.syntax_forms.proofs.KindLaws.{is_it, not_is, within}
use Rattle.syntax_forms.proofs.Lawful.{Starts}

-- the terminal that alone begins a form
pub takes_first : {A : Type 0} (F : Form A) (word : Kind) → of_all (λ x. is word x || not (F.first x)) ≡ true → (i : Input) → Starts F i → Takes word i (next i)
takes_first F word only i s = record { kind = is_it word (kind i) (within F.first (is word) only (kind i) s); next = refl }

-- it comes, or another one is refused
pub there : (word : Kind) (i : Input) → kind i ≡ word → expect word i ≡ Ok (tt, next i)
there word i e = expect_complete word i (next i) (record { kind = e; next = refl })

pub refused : (word : Kind) (i : Input) → is word (kind i) ≡ false → expect word i ≡ refuse i
unfolding expect
refused word i e = rw (unseen word i (not_is word (kind i) e)) refl
