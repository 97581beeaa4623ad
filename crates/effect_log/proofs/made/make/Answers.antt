-- Each effect by its lemma.
use Rattle.std.proofs.Common.{◌≡◌, List, ◌∷◌, refl, sym, subst}
use Rattle.estelle_model.specs.declared.effect.Effect.{Effect}
use Rattle.estelle_model.specs.Subject.{Subject}
use Rattle.effect_log.specs.declared.shared.Shared.{Shared}
use Rattle.effect_log.specs.declared.notes.Notes.{Notes}
use Rattle.effect_log.specs.Underway.{MayGoOn, WasMade}
use Rattle.effect_log.proofs.Making.{may-send, output-made, may-connect, connect-made, may-disconnect, disconnect-made, may-attach, attach-made, may-detach, detach-made, may-create, create-made, may-remove, remove-made}
use Rattle.effect_log.proofs.made.make.Goals as goal

-- the same of the effect by its other name
named : (s : Subject) (rest : List Effect) (shared : Shared) (notes : Notes) (e f : Effect) → e ≡ f → MayGoOn s (e ∷ rest) shared notes → MayGoOn s (f ∷ rest) shared notes
named s rest shared notes e f is may = subst (λ (x : Effect). MayGoOn s (x ∷ rest) shared notes) is may

made : (s : Subject) (rest : List Effect) (shared new : Shared) (notes noted : Notes) (e f : Effect) → e ≡ f → ((may : MayGoOn s (f ∷ rest) shared notes) → WasMade s f rest notes noted new may.by may.acting)
    → (may : MayGoOn s (e ∷ rest) shared notes) → WasMade s e rest notes noted new may.by may.acting
made s rest shared new notes noted e f is h = subst (λ (x : Effect). (may : MayGoOn s (x ∷ rest) shared notes) → WasMade s x rest notes noted new may.by may.acting) (sym is) h

pub output-requires : goal.output-requires
output-requires g c =
    may-send (g.D.Disciplines.subject c.args.disciplines.now) c.in-Output.from c.in-Output.item c.in-Output.out c.requires.0 c.args.shared.now c.args.notes.now
    (named _ c.requires.0 c.args.shared.now c.args.notes.now c.args.effect _ c.in-Output.is c.requires.1)

pub connect-requires-clause-free : goal.connect-requires-clause-free
connect-requires-clause-free g c =
    (may-connect (g.D.Disciplines.subject c.args.disciplines.now) c.in-Connect.a c.in-Connect.b c.requires.0 c.args.shared.now c.args.notes.now
    (named _ c.requires.0 c.args.shared.now c.args.notes.now c.args.effect _ c.in-Connect.is c.requires.1)).2

pub disconnect-requires : goal.disconnect-requires
disconnect-requires g c =
    may-disconnect (g.D.Disciplines.subject c.args.disciplines.now) c.in-Disconnect.a c.requires.0 c.args.shared.now c.args.notes.now
    (named _ c.requires.0 c.args.shared.now c.args.notes.now c.args.effect _ c.in-Disconnect.is c.requires.1)

pub attach-requires-clause-free : goal.attach-requires-clause-free
attach-requires-clause-free g c =
    (may-attach (g.D.Disciplines.subject c.args.disciplines.now) c.in-Attach.upper c.in-Attach.lower c.requires.0 c.args.shared.now c.args.notes.now
    (named _ c.requires.0 c.args.shared.now c.args.notes.now c.args.effect _ c.in-Attach.is c.requires.1)).free

pub attach-requires-clause-upper : goal.attach-requires-clause-upper
attach-requires-clause-upper g c =
    (may-attach (g.D.Disciplines.subject c.args.disciplines.now) c.in-Attach.upper c.in-Attach.lower c.requires.0 c.args.shared.now c.args.notes.now
    (named _ c.requires.0 c.args.shared.now c.args.notes.now c.args.effect _ c.in-Attach.is c.requires.1)).declared

pub attach-requires-clause-last : goal.attach-requires-clause-last
attach-requires-clause-last g c =
    (may-attach (g.D.Disciplines.subject c.args.disciplines.now) c.in-Attach.upper c.in-Attach.lower c.requires.0 c.args.shared.now c.args.notes.now
    (named _ c.requires.0 c.args.shared.now c.args.notes.now c.args.effect _ c.in-Attach.is c.requires.1)).last

pub attach-requires-clause-differ : goal.attach-requires-clause-differ
attach-requires-clause-differ g c =
    (may-attach (g.D.Disciplines.subject c.args.disciplines.now) c.in-Attach.upper c.in-Attach.lower c.requires.0 c.args.shared.now c.args.notes.now
    (named _ c.requires.0 c.args.shared.now c.args.notes.now c.args.effect _ c.in-Attach.is c.requires.1)).differ

pub detach-requires-clause-attached : goal.detach-requires-clause-attached
detach-requires-clause-attached g c =
    (may-detach (g.D.Disciplines.subject c.args.disciplines.now) c.in-Detach.upper c.requires.0 c.args.shared.now c.args.notes.now
    (named _ c.requires.0 c.args.shared.now c.args.notes.now c.args.effect _ c.in-Detach.is c.requires.1)).0

pub detach-requires-clause-upper : goal.detach-requires-clause-upper
detach-requires-clause-upper g c =
    (may-detach (g.D.Disciplines.subject c.args.disciplines.now) c.in-Detach.upper c.requires.0 c.args.shared.now c.args.notes.now
    (named _ c.requires.0 c.args.shared.now c.args.notes.now c.args.effect _ c.in-Detach.is c.requires.1)).1

pub detach-requires-clause-last : goal.detach-requires-clause-last
detach-requires-clause-last g c =
    (may-detach (g.D.Disciplines.subject c.args.disciplines.now) c.in-Detach.upper c.requires.0 c.args.shared.now c.args.notes.now
    (named _ c.requires.0 c.args.shared.now c.args.notes.now c.args.effect _ c.in-Detach.is c.requires.1)).2

pub create-requires-clause-fresh : goal.create-requires-clause-fresh
create-requires-clause-fresh g c =
    (may-create (g.D.Disciplines.subject c.args.disciplines.now) c.in-Create.path c.in-Create.part c.in-Create.ips c.requires.0 c.args.shared.now c.args.notes.now
    (named _ c.requires.0 c.args.shared.now c.args.notes.now c.args.effect _ c.in-Create.is c.requires.1)).fresh

pub remove-requires-clause-space : goal.remove-requires-clause-space
remove-requires-clause-space g c =
    (may-remove (g.D.Disciplines.subject c.args.disciplines.now) c.in-Remove.path c.requires.0 c.args.shared.now c.args.notes.now
    (named _ c.requires.0 c.args.shared.now c.args.notes.now c.args.effect _ c.in-Remove.is c.requires.1)).space

pub remove-requires-clause-drops : goal.remove-requires-clause-drops
remove-requires-clause-drops g c =
    (may-remove (g.D.Disciplines.subject c.args.disciplines.now) c.in-Remove.path c.requires.0 c.args.shared.now c.args.notes.now
    (named _ c.requires.0 c.args.shared.now c.args.notes.now c.args.effect _ c.in-Remove.is c.requires.1)).drops

pub returns-in-Output : goal.returns-in-Output
returns-in-Output g c = λ rest.
    made (g.D.Disciplines.subject c.args.disciplines.now) rest c.args.shared.now c.output.new.shared c.args.notes.now c.output.new.notes c.args.effect _ c.in-Output.is
    (λ may. output-made (g.D.Disciplines.subject c.args.disciplines.now) c.in-Output.from c.in-Output.item c.in-Output.out rest c.args.shared.now c.args.notes.now may c.output.new.shared c.output.new.notes c.output.ensures)

pub returns-in-Connect : goal.returns-in-Connect
returns-in-Connect g c = λ rest.
    made (g.D.Disciplines.subject c.args.disciplines.now) rest c.args.shared.now _ c.args.notes.now c.args.notes.now c.args.effect _ c.in-Connect.is
    (λ may. connect-made (g.D.Disciplines.subject c.args.disciplines.now) c.in-Connect.a c.in-Connect.b rest c.args.shared.now c.args.notes.now may _ refl refl refl c.connect.ensures.links c.connect.ensures.spare)

pub returns-in-Disconnect : goal.returns-in-Disconnect
returns-in-Disconnect g c = λ rest.
    made (g.D.Disciplines.subject c.args.disciplines.now) rest c.args.shared.now _ c.args.notes.now c.args.notes.now c.args.effect _ c.in-Disconnect.is
    (λ may. disconnect-made (g.D.Disciplines.subject c.args.disciplines.now) c.in-Disconnect.a rest c.args.shared.now c.args.notes.now may _ refl refl refl c.disconnect.ensures.links c.disconnect.ensures.spare)

pub returns-in-Attach : goal.returns-in-Attach
returns-in-Attach g c = λ rest.
    made (g.D.Disciplines.subject c.args.disciplines.now) rest c.args.shared.now _ c.args.notes.now c.args.notes.now c.args.effect _ c.in-Attach.is
    (λ may. attach-made (g.D.Disciplines.subject c.args.disciplines.now) c.in-Attach.upper c.in-Attach.lower rest c.args.shared.now c.args.notes.now may _ refl c.attach.ensures.queues refl c.attach.ensures.links c.attach.ensures.room c.attach.ensures.end)

pub returns-in-Detach : goal.returns-in-Detach
returns-in-Detach g c = λ rest.
    made (g.D.Disciplines.subject c.args.disciplines.now) rest c.args.shared.now _ c.args.notes.now c.args.notes.now c.args.effect _ c.in-Detach.is
    (λ may. detach-made (g.D.Disciplines.subject c.args.disciplines.now) c.in-Detach.upper rest c.args.shared.now c.args.notes.now may _ refl c.detach.ensures.queues refl c.detach.ensures.links c.detach.ensures.room)

pub returns-in-Create : goal.returns-in-Create
returns-in-Create g c = λ rest.
    made (g.D.Disciplines.subject c.args.disciplines.now) rest c.args.shared.now _ c.args.notes.now _ c.args.effect _ c.in-Create.is
    (λ may. create-made (g.D.Disciplines.subject c.args.disciplines.now) c.in-Create.path c.in-Create.part c.in-Create.ips rest c.args.shared.now c.args.notes.now may _ _
    c.create.ensures.tree c.create.ensures.space refl refl c.create.ensures.queues c.create.ensures.spare c.create.ensures.room refl c.create.ensures.points c.create.ensures.capacity)

pub returns-in-Remove : goal.returns-in-Remove
returns-in-Remove g c = λ rest.
    made (g.D.Disciplines.subject c.args.disciplines.now) rest c.args.shared.now _ c.args.notes.now _ c.args.effect _ c.in-Remove.is
    (λ may. remove-made (g.D.Disciplines.subject c.args.disciplines.now) c.in-Remove.path rest c.args.shared.now c.args.notes.now may _ _
    c.remove.ensures.tree c.remove.ensures.spare refl c.remove.ensures.queues c.remove.ensures.items c.remove.ensures.points c.remove.ensures.links c.remove.ensures.room refl
    c.remove.ensures.drops c.remove.ensures.capacity c.remove.ensures.dropped c.remove.ensures.space)
