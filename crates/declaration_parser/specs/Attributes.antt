-- Attributes, queues, and what a specification sets for all of its modules, read from left to right.
use Rattle.std.specs.Prelude.{ℕ, Bool, true, false, List, [], ◌∷◌, ◌++◌, Option, Some, None}
use Rattle.estelle_tree.specs.declared.kind.Kind.{Kind}
use Rattle.estelle_tree.specs.declared.kind.Kind.TheVariants as k
use Rattle.estelle_tree.specs.declared.tree.specification.SysAttr.{SysAttr}
use Rattle.estelle_tree.specs.declared.tree.specification.SysAttr.TheVariants as a_sys_attr
use Rattle.estelle_tree.specs.declared.tree.specification.Attr.{Attr}
use Rattle.estelle_tree.specs.declared.tree.specification.Attr.TheVariants as an_attr
use Rattle.estelle_tree.specs.declared.tree.specification.Disc.{Disc}
use Rattle.estelle_tree.specs.declared.tree.specification.Disc.TheVariants as a_disc
use Rattle.estelle_tree.specs.declared.tree.specification.Head.{Head}
use Rattle.estelle_tree.specs.declared.tree.specification.Head.TheVariants as a_head
use Rattle.token_reader.specs.Reader.{Parser, ◌>>=◌, ◌>>◌, pure, refuse, peek, here, since, take, name}
use Rattle.token_reader.specs.Lists.{optional, ended}
use Rattle.declaration_parser.specs.Forms.{enclosed}

-- ---- by which kinds they begin

abbrev pub begins_sys_attr : Kind → Bool
begins_sys_attr k.Systemprocess = true
begins_sys_attr k.Systemactivity = true
begins_sys_attr _ = false

abbrev pub begins_attr : Kind → Bool
begins_attr k.Systemprocess = true
begins_attr k.Systemactivity = true
begins_attr k.Process = true
begins_attr k.Activity = true
begins_attr _ = false

abbrev pub begins_disc : Kind → Bool
begins_disc k.Individual = true
begins_disc k.Common = true
begins_disc _ = false

abbrev pub begins_default : Kind → Bool
begins_default k.Default = true
begins_default _ = false

abbrev pub begins_timescale : Kind → Bool
begins_timescale k.Timescale = true
begins_timescale _ = false

abbrev pub begins_head : Kind → Bool
begins_head k.Default = true
begins_head k.Timescale = true
begins_head _ = false

-- behind a head that begins by the first kind: the other form
abbrev pub begins_second : Kind → Kind → Bool
begins_second k.Default kind = begins_timescale kind
begins_second k.Timescale kind = begins_default kind
begins_second _ kind = false

-- ---- attributes

abbrev pub sys_attr_by : ℕ → Kind → Parser SysAttr
sys_attr_by from k.Systemprocess = take >> (since from >>= λ span. pure (a_sys_attr.Systemprocess span))
sys_attr_by from k.Systemactivity = take >> (since from >>= λ span. pure (a_sys_attr.Systemactivity span))
sys_attr_by from _ = refuse

-- SysAttr = systemprocess | systemactivity
unfoldable pub sys_attr : Parser SysAttr
sys_attr = do
  from ← here
  kind ← peek
  sys_attr_by from kind

unfoldable pub system : Parser Attr
system = do
  s ← sys_attr
  pure (an_attr.SysAttr s)

abbrev pub attr_by : ℕ → Kind → Parser Attr
attr_by from k.Process = take >> (since from >>= λ span. pure (an_attr.Process span))
attr_by from k.Activity = take >> (since from >>= λ span. pure (an_attr.Activity span))
attr_by from _ = system

-- Attr = SysAttr | process | activity
unfoldable pub attr : Parser Attr
attr = do
  from ← here
  kind ← peek
  attr_by from kind

-- ---- queues

abbrev pub disc_by : ℕ → Kind → Parser Disc
disc_by from k.Individual = take >> (since from >>= λ span. pure (a_disc.Individual span))
disc_by from k.Common = take >> (since from >>= λ span. pure (a_disc.Common span))
disc_by from _ = refuse

-- Disc = individual | common
unfoldable pub disc : Parser Disc
disc = do
  from ← here
  kind ← peek
  disc_by from kind

-- `Disc queue`
abbrev pub queue : Parser Disc
queue = ended k.Queue disc

-- ---- heads

-- `default Disc queue ";"`
unfoldable pub default_head : Parser Head
default_head = do
  from ← here
  d ← enclosed k.Default k.Semicolon queue
  span ← since from
  pure (a_head.Default d span)

-- `timescale NAME ";"`
unfoldable pub timescale_head : Parser Head
timescale_head = do
  from ← here
  unit ← enclosed k.Timescale k.Semicolon name
  span ← since from
  pure (a_head.Timescale unit span)

abbrev pub head_by : Kind → Parser Head
head_by k.Default = default_head
head_by k.Timescale = timescale_head
head_by _ = refuse

-- Head = default Disc queue ";" | timescale NAME ";"
unfoldable pub head : Parser Head
head = do
  kind ← peek
  head_by kind

abbrev pub listed : {A : Type 0} → Option A → List A
listed None = []
listed (Some x) = x ∷ []

-- `{Head}`: each form at most once
unfoldable pub heads : Parser (List Head)
heads = do
  kind ← peek
  first ← optional begins_head head
  second ← optional (begins_second kind) head
  pure (listed first ++ listed second)
