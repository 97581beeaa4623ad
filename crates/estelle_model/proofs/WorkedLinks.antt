-- Examples of ways of outputs, and of interactions that move and are dropped with the links of their interaction points.
-- Two systems: /1 sends at its interaction point 0 to /2, which is connected to it; /2/1 is a child of /2, and /2/1/1 its child.
-- An interaction is told by its number.
use Rattle.std.proofs.Common.{◌≡◌, ℕ, List, [], ◌∷◌, Some, None, refl}
use Rattle.estelle_tree.specs.declared.link.IpAddr.{IpAddr}
use Rattle.estelle_tree.specs.declared.link.Link.{Link}
use Rattle.estelle_tree.specs.Links.{same_ip, connection, attachment, route}
use Rattle.estelle_tree.specs.Queues as queues
use Rattle.estelle_model.specs.declared.image.Interaction.{Interaction}
use Rattle.estelle_model.specs.Effects.{Output, Disconnect, Attach, Detach, Remove, links_after}
use Rattle.estelle_model.specs.Situation.{Waiting, mail_after, drops_after}
use Rattle.estelle_model.specs.Actions.{at}

abbrev pub interaction : ℕ → Interaction
interaction n = record { number = n; name = []; values = [] }

abbrev pub waits : ℕ → IpAddr → Waiting
waits n a = record { item = interaction n; at = a }

-- the sender's point; the receiver's, and one inside it; the child's first and second, and one inside it; the grandchild's
abbrev pub o : IpAddr
o = at (1 ∷ []) 0

abbrev pub p : IpAddr
p = at (2 ∷ []) 0

abbrev pub k : IpAddr
k = at (2 ∷ []) 1

abbrev pub q : IpAddr
q = at (2 ∷ 1 ∷ []) 0

abbrev pub r : IpAddr
r = at (2 ∷ 1 ∷ []) 1

abbrev pub j : IpAddr
j = at (2 ∷ 1 ∷ []) 2

abbrev pub t : IpAddr
t = at (2 ∷ 1 ∷ 1 ∷ []) 0

-- ---- the way of an output

pub over_a_connection : route (connection o p ∷ []) o ≡ Some p
over_a_connection = refl

-- the other end sends too
pub back : route (connection o p ∷ []) p ≡ Some o
back = refl

-- the receiver has attached its point to its child's
pub over_an_attachment : route (connection o p ∷ attachment p q ∷ []) o ≡ Some q
over_an_attachment = refl

-- and the child its point to its own child's, whichever link came first
pub over_two_attachments : route (attachment q t ∷ connection o p ∷ attachment p q ∷ []) o ≡ Some t
over_two_attachments = refl

-- up over two attachments, and over the connection
pub upwards : route (attachment q t ∷ connection o p ∷ attachment p q ∷ []) t ≡ Some o
upwards = refl

-- up, over the connection and down: the sender too is attached to a child of its own
pub up_and_down : route (attachment o (at (1 ∷ 1 ∷ []) 0) ∷ attachment p q ∷ connection o p ∷ []) (at (1 ∷ 1 ∷ []) 0) ≡ Some q
up_and_down = refl

-- with no connection at the top the output is lost, also where the point is attached
pub lost : route (attachment p q ∷ []) q ≡ None
lost = refl

-- ---- there by `attach` and back by `detach`

abbrev pub connected : List Link
connected = connection o p ∷ []

abbrev pub attached : List Link
attached = connection o p ∷ attachment p q ∷ []

-- attach p to x.q: what waits at p goes to q in its order, behind all that waits elsewhere
pub attached_after : links_after (Attach p q) connected ≡ attached
unfolding links_after
attached_after = refl

pub moved_down : mail_after (Attach p q) connected 3 (waits 1 p ∷ waits 2 k ∷ waits 3 p ∷ []) ≡ waits 2 k ∷ waits 1 q ∷ waits 3 q ∷ []
unfolding mail_after
moved_down = refl

-- where q is attached itself, it goes to the end of the way down
pub moved_to_the_bottom : mail_after (Attach p q) (connection o p ∷ attachment q t ∷ []) 1 (waits 1 p ∷ []) ≡ waits 1 t ∷ []
unfolding mail_after
moved_to_the_bottom = refl

-- then /1 outputs 4, and the child takes the first that waits
pub arrives : mail_after (Output o [] [] []) attached 3 (waits 1 q ∷ waits 3 q ∷ []) ≡ waits 1 q ∷ waits 3 q ∷ waits 4 q ∷ []
unfolding mail_after
arrives = refl

-- detach p: what is left at q comes back to p in its order
pub moved_up : mail_after (Detach p) attached 4 (waits 3 q ∷ waits 2 k ∷ waits 4 q ∷ []) ≡ waits 2 k ∷ waits 3 p ∷ waits 4 p ∷ []
unfolding mail_after
moved_up = refl

pub detached_after : links_after (Detach p) attached ≡ connected
unfolding links_after
detached_after = refl

-- 1 and 2 wait at p, which is attached; the child takes 1; p is detached: 2 waits at p again
pub there_and_back : mail_after (Detach p) attached 2 (queues.without_head (same_ip q) (mail_after (Attach p q) connected 2 (waits 1 p ∷ waits 2 p ∷ []))) ≡ waits 2 p ∷ []
unfolding mail_after
there_and_back = refl

-- ---- release of /2/1, whose q is attached to p and whose r is connected to k; its j is connected to its child's t

abbrev pub before_release : List Link
before_release = connection o p ∷ connection k r ∷ connection j t ∷ attachment p q ∷ []

-- q is detached: 3 and 4 go back to p
abbrev pub one_detached : List Link
one_detached = connection o p ∷ connection k r ∷ connection j t ∷ []

pub release_detaches : links_after (Detach p) before_release ≡ one_detached
unfolding links_after
release_detaches = refl

pub release_moves : mail_after (Detach p) before_release 4 (waits 2 r ∷ waits 1 t ∷ waits 3 q ∷ waits 4 q ∷ []) ≡ waits 2 r ∷ waits 1 t ∷ waits 3 p ∷ waits 4 p ∷ []
unfolding mail_after
release_moves = refl

-- r is disconnected: nothing moves
pub release_disconnects : links_after (Disconnect r) one_detached ≡ connection o p ∷ connection j t ∷ []
unfolding links_after
release_disconnects = refl

pub nothing_moves : mail_after (Disconnect r) one_detached 4 (waits 2 r ∷ waits 1 t ∷ waits 3 p ∷ waits 4 p ∷ []) ≡ waits 2 r ∷ waits 1 t ∷ waits 3 p ∷ waits 4 p ∷ []
unfolding mail_after
nothing_moves = refl

-- the child and the grandchild vanish: what waits at them is dropped, 1 before 2, and their links go
pub release_drops : drops_after (Remove (2 ∷ []) 1) (waits 2 r ∷ waits 1 t ∷ waits 3 p ∷ waits 4 p ∷ []) [] ≡ 1 ∷ 2 ∷ []
unfolding drops_after
release_drops = refl

pub release_leaves : mail_after (Remove (2 ∷ []) 1) (connection o p ∷ connection j t ∷ []) 4 (waits 2 r ∷ waits 1 t ∷ waits 3 p ∷ waits 4 p ∷ []) ≡ waits 3 p ∷ waits 4 p ∷ []
unfolding mail_after
release_leaves = refl

pub release_unlinks : links_after (Remove (2 ∷ []) 1) (connection o p ∷ connection j t ∷ []) ≡ connection o p ∷ []
unfolding links_after
release_unlinks = refl
