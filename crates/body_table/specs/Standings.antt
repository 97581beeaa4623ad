-- Bodies, by the parts of the tree.
use Rattle.std.specs.Prelude.{ℕ, ◌+◌, Bool, List, [], ◌++◌, length, map, flat_map, option_to_list, Option, None}
use Rattle.estelle_tree.specs.declared.tree.name.Name.{Name}
use Rattle.estelle_tree.specs.declared.tree.specification.Init.{Init}
use Rattle.estelle_tree.specs.declared.tree.specification.Trans.{Trans}
use Rattle.estelle_tree.specs.declared.tree.specification.Body.{Body}
use Rattle.estelle_tree.specs.declared.tree.specification.Parts.{Parts, out-Parts}
use Rattle.estelle_tree.specs.declared.tree.specification.Spec.{Spec}
use Rattle.estelle_tree.specs.declared.tree.specification.Decl.{Decl}
use Rattle.estelle_tree.specs.declared.tree.specification.Decl.TheFolds.{fold-Body}
use Rattle.estelle_model.specs.declared.meaning.Meaning.{Meaning}
use Rattle.estelle_model.specs.declared.meaning.Meaning.TheVariants.{Ip}
use Rattle.estelle_model.specs.Meant.{Meanings}
use Rattle.estelle_model.specs.Denoted.{Declarations, numbered, sections_declare}
use Rattle.estelle_model.specs.Definitions.{clause_declares, block_declares}
use Rattle.estelle_model.specs.Bodies.{Contribution, BodyAlone, default_of, heading, clauses, ways, decl_layer, body_layer, parts_layer}
use Rattle.meaning_table.specs.Kinds.{numbered_behind, plainly}
use Rattle.meaning_table.specs.declared.kinds.PlainKind.TheVariants.{State, Module}
use Rattle.meaning_table.specs.declared.kinds.VariableKind.TheVariants.{Own}
use Rattle.body_table.specs.Contributions.{states_of, names_of, variables_of, modules_of, ip_names_of, bodies_of, brought_of}

-- a body and then the bodies in it
unfoldable pub body : Bool → Body → List BodyAlone
body by_default = fold-Body (Contribution × List BodyAlone) (List BodyAlone) (List BodyAlone) (decl_layer by_default) (body_layer by_default) (parts_layer by_default)

-- a body without those in it
abbrev pub standing : Bool → Option Name → Option Name → Parts → BodyAlone
standing by_default name header p = record {
  name = name;
  header = header;
  brought = map (brought_of by_default) (out-Parts p).decls;
  init = (out-Parts p).init;
  trans = (out-Parts p).trans;
}

-- the bodies that stand in these declarations
abbrev pub inner : Bool → List Decl → List BodyAlone
inner by_default ds = flat_map (λ d. flat_map (body by_default) (bodies_of d)) ds

abbrev pub inner_of : Bool → Parts → List BodyAlone
inner_of by_default p = inner by_default (out-Parts p).decls

-- how many variables the header of a body has
abbrev pub header_variables : Option Name → Meanings → ℕ
header_variables header known = length ((heading known header).parameters ++ (heading known header).exports)

-- an interaction point of a body, behind those of its header
abbrev pub own_ip : Option Name → ℕ → Meanings → Meaning
own_ip header n known = Ip (length (heading known header).ips + n)

-- what the declarations of a body declare
abbrev pub decls_declare : Bool → Option Name → List Decl → Declarations
decls_declare by_default header ds =
    numbered (plainly State) 0 (flat_map states_of ds)
    ++ flat_map (names_of by_default) ds
    ++ sections_declare (numbered_behind Own (header_variables header)) 0 (flat_map variables_of ds)
    ++ numbered (plainly Module) 0 (flat_map modules_of ds)
    ++ numbered (own_ip header) 0 (flat_map ip_names_of ds)

-- what its blocks declare
abbrev pub blocks_declare : Option Init → List Trans → Declarations
blocks_declare init trans =
    flat_map (λ i. block_declares [] i.block) (option_to_list init)
    ++ flat_map (λ t. flat_map clause_declares (clauses t.body)) trans
    ++ flat_map (λ t. flat_map (λ w. block_declares w.clauses w.block) (ways t.body)) trans

-- the specification without the bodies in it
abbrev pub root : Spec → BodyAlone
root tree = standing (default_of tree.heads) None None tree.parts
