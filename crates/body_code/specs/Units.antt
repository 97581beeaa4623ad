-- The units of a code by the body that they belong to and by what they are for.
use Rattle.std.specs.Prelude.{ℕ, Bool, true, false, ◌&&◌, nat_eq, List, [], ◌∷◌, Option, Some, None, option_map}
use Rattle.std.specs.Map.{lookup}
use Rattle.body_code.specs.declared.unit.Entry.{Entry}
use Rattle.body_code.specs.declared.unit.Entry.TheVariants as entry
use Rattle.body_code.specs.declared.unit.Heading.{Heading}
use Rattle.body_code.specs.declared.unit.Heading.TheVariants.{Body, Routine, Initialize, Guard, Delay, Block}
use Rattle.body_code.specs.declared.unit.CodeUnit.{CodeUnit}

-- a body, and an entry of its code
abbrev pub Place : Type 0
Place = ℕ × Entry

-- the entry of a unit, where it has instructions
abbrev pub entry_of : Heading → Option Entry
entry_of (Body body name) = None
entry_of (Routine routine name) = Some (entry.Routine routine)
entry_of Initialize = Some entry.Initialize
entry_of (Guard trans) = Some (entry.Guard trans)
entry_of (Delay trans) = Some (entry.Delay trans)
entry_of (Block trans) = Some (entry.Block trans)

-- the body of the units behind a heading: the one that it names, or else the one before
abbrev pub body_behind : Option ℕ → Heading → Option ℕ
body_behind here (Body body name) = Some body
body_behind here _ = here

-- the place of a unit that belongs to the body of this number
abbrev pub place_of : Option ℕ → Heading → Option Place
place_of None heading = None
place_of (Some body) heading = option_map (λ e. (body, e)) (entry_of heading)

-- each unit with its place, where the first ones belong to the body of this number
abbrev pub placed : Option ℕ → List CodeUnit → List (Option Place × CodeUnit)
placed here [] = []
placed here (u ∷ us) = (place_of here u.heading, u) ∷ placed (body_behind here u.heading) us

-- two entries are the same
abbrev pub same_entry : Entry → Entry → Bool
same_entry (entry.Routine k) (entry.Routine n) = nat_eq k n
same_entry entry.Initialize entry.Initialize = true
same_entry (entry.Guard k) (entry.Guard n) = nat_eq k n
same_entry (entry.Delay k) (entry.Delay n) = nat_eq k n
same_entry (entry.Block k) (entry.Block n) = nat_eq k n
same_entry _ _ = false

-- two places are the same
abbrev pub same_place : Place → Place → Bool
same_place p q = nat_eq p.0 q.0 && same_entry p.1 q.1

-- a unit stands at a place
abbrev pub is_at : Place → Option Place → Bool
is_at p None = false
is_at p (Some q) = same_place p q

-- the first unit of a body with an entry
unfoldable pub unit_of : List CodeUnit → ℕ → Entry → Option CodeUnit
unit_of code body e = lookup (is_at (body, e)) (placed None code)
