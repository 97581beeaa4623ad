-- What the links that are kept are seen as.
use Rattle.std.specs.Prelude.{if◌then◌else◌, List}
use Rattle.estelle_tree.specs.declared.link.Link.{Link}
use Rattle.body_state.specs.declared.links.LinkList.TheInside.{Inside}

-- its own links, once one has changed
abbrev pub links_kept : Inside → List Link
links_kept l = if l.is_own then l.own.items else l.lent.now
