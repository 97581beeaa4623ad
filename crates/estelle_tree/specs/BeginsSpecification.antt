-- Which pieces begin channels, headers, bodies and a specification.
use Rattle.std.specs.Prelude.{◌≡◌, ℕ, zero, suc, false, List, map, ◌⊎◌}
use Rattle.estelle_tree.specs.declared.kind.Kind.TheVariants as k
use Rattle.estelle_tree.specs.declared.token.Placed.{Placed}
use Rattle.estelle_tree.specs.declared.tree.specification.Head.{Head}
use Rattle.estelle_tree.specs.declared.tree.specification.Parts.{Parts}
use Rattle.estelle_tree.specs.Input.{Input, input, kind, skip}
use Rattle.estelle_tree.specs.Spelling.{Spelling, Behind}
use Rattle.estelle_tree.specs.Types.{IsNames}
use Rattle.estelle_tree.specs.Declarations.{IsConstDef, IsTypeDef, AreVars}
use Rattle.estelle_tree.specs.Clauses.{stands}
use Rattle.estelle_tree.specs.Specification.{IsSysAttr, IsAttr, IsQueue, of_head, AreHeads, AreParams, IsParams, IsInter, AreInters, IsIpDecl, AreModvars, IsStateset, IsInit, IsTrans, DeclOf, PartsBelow, IsParts}
use Rattle.estelle_tree.specs.Spells.{max_nesting}
use Rattle.estelle_tree.specs.Beginning.{Beginning, Nothing, ◌or◌, Then, After, OneToken, Opens, May, Many, Some, Separating, Lining}
use Rattle.estelle_tree.specs.BeginsTypes.{BeginsName, BeginsNames}
use Rattle.estelle_tree.specs.BeginsDeclarations.{BeginsConstDef, BeginsTypeDef, BeginVars, BeginsRoutine}
use Rattle.estelle_tree.specs.BeginsClauses.{BeginsBlock, BeginsTransBody}

-- SysAttr = systemprocess | systemactivity
abbrev pub BeginsSysAttr : Beginning
BeginsSysAttr = OneToken k.Systemprocess or OneToken k.Systemactivity

-- Attr = SysAttr | process | activity
abbrev pub BeginsAttr : Beginning
BeginsAttr = BeginsSysAttr or OneToken k.Process or OneToken k.Activity

-- `Disc queue`, Disc = individual | common
abbrev pub BeginsQueue : Beginning
BeginsQueue = After k.Individual (OneToken k.Queue) or After k.Common (OneToken k.Queue)

-- Head = default Disc queue ";" | timescale NAME ";"
abbrev pub BeginsHead : Beginning
BeginsHead = After k.Default (Then BeginsQueue IsQueue (OneToken k.Semicolon)) or After k.Timescale (After k.Name (OneToken k.Semicolon))

-- `{Head}`, each form at most once, and what comes next
abbrev pub BeginHeads : Beginning → Beginning
BeginHeads next i j =
    (hs : List Head) × (m : Input) × AreHeads hs i m
    × ((m ≡ j) ⊎ (((stands (kind m) (map of_head hs) ≡ false) × BeginsHead m j) ⊎ next m j))

-- `Names ":" NAME`
abbrev pub BeginNamed : Beginning
BeginNamed = Then BeginsNames IsNames (After k.Colon BeginsName)

-- Params = Names ":" NAME {";" Names ":" NAME}
abbrev pub BeginsParams : Beginning
BeginsParams = Separating k.Semicolon BeginNamed AreParams Nothing

-- `["(" Params ")"]` and what comes next
abbrev pub MayBeginParams : Beginning → Beginning
MayBeginParams next = next or After k.OpenParenthesis (Then BeginsParams IsParams (After k.CloseParenthesis next))

-- Inter = NAME ["(" Params ")"]
abbrev pub BeginsInter : Beginning
BeginsInter = After k.Name (MayBeginParams Nothing)

-- `Names ":" {Inter ";"}+`
abbrev pub BeginInters : Beginning
BeginInters = Then BeginsNames IsNames (After k.Colon (Lining BeginsInter IsInter Nothing))

-- Channel = channel NAME "(" NAME "," NAME ")" ";" {by Names ":" {Inter ";"}+}+
abbrev pub BeginsChannel : Beginning
BeginsChannel =
    After k.Channel (After k.Name (After k.OpenParenthesis (After k.Name (After k.Comma (After k.Name (After k.CloseParenthesis (After k.Semicolon
    (Some (After k.By BeginInters) (Behind k.By AreInters) Nothing))))))))

-- IpDecl = Names ":" NAME "(" NAME ")" [Disc queue]
abbrev pub BeginsIpDecl : Beginning
BeginsIpDecl = Then BeginsNames IsNames (After k.Colon (After k.Name (After k.OpenParenthesis (After k.Name (After k.CloseParenthesis BeginsQueue)))))

-- `NAME "=" "[" Names "]"`
abbrev pub BeginsStateset : Beginning
BeginsStateset = After k.Name (After k.Equal (After k.OpenBracket (Then BeginsNames IsNames (OneToken k.CloseBracket))))

-- Where this many more levels of nesting may open.
module _ (room : ℕ) where
  -- Header = module NAME [Attr] ["(" Params ")"] ";" [ip {IpDecl ";"}+] [export {Names ":" Type ";"}+] end ";"
  abbrev pub BeginsHeader : Beginning
  BeginsHeader = After k.Module (After k.Name (May BeginsAttr IsAttr (MayBeginParams (After k.Semicolon (ips or After k.Ip (Lining BeginsIpDecl IsIpDecl ips))))))
    where
      ends : Beginning
      ends = After k.End (OneToken k.Semicolon)

      ips : Beginning
      ips = ends or After k.Export (Lining (BeginVars room) (AreVars room) ends)

  -- Init = initialize [to NAME] Block
  abbrev pub BeginsInit : Beginning
  BeginsInit = After k.Initialize (BeginsBlock room or After k.To (After k.Name (BeginsBlock room)))

  -- `trans TransBody`
  abbrev pub BeginsTrans : Beginning
  BeginsTrans = After k.Trans (BeginsTransBody room)

  -- Over what the parts of a body in it spell and what begins them.
  module _ (P : Spelling Parts) (B : Beginning) where
    -- Body = body NAME for NAME ";" Parts end ";"
    abbrev pub BeginBody : Beginning
    BeginBody = Opens room k.Body (After k.Name (After k.For (After k.Name (After k.Semicolon (Then B P (After k.End (OneToken k.Semicolon)))))))

    -- Decl = const {NAME "=" Const ";"}+ | type {NAME "=" Type ";"}+ | Channel | Header | Body
    --      | ip {IpDecl ";"}+ | modvar {Names ":" NAME ";"}+ | var {Names ":" Type ";"}+
    --      | state Names ";" | stateset {NAME "=" "[" Names "]" ";"}+ | Routine
    abbrev pub BeginDecl : Beginning
    BeginDecl =
        After k.Const (Lining BeginsConstDef IsConstDef Nothing)
        or After k.Type (Lining (BeginsTypeDef room) (IsTypeDef room) Nothing)
        or BeginsChannel
        or BeginsHeader
        or BeginBody
        or After k.Ip (Lining BeginsIpDecl IsIpDecl Nothing)
        or After k.Modvar (Lining BeginNamed AreModvars Nothing)
        or After k.Var (Lining (BeginVars room) (AreVars room) Nothing)
        or After k.State (Then BeginsNames IsNames (OneToken k.Semicolon))
        or After k.Stateset (Lining BeginsStateset IsStateset Nothing)
        or BeginsRoutine room

    -- Parts = {Decl} [Init] {trans TransBody}
    abbrev pub BeginParts : Beginning
    BeginParts = Many BeginDecl (DeclOf room P) (May BeginsInit (IsInit room) (Many BeginsTrans (IsTrans room) Nothing))

-- one level down from where this many levels may open
abbrev pub BeginsPartsBelow : ℕ → Beginning
BeginsPartsBelow zero i j = Nothing i j
BeginsPartsBelow (suc room) i j = BeginParts room (PartsBelow room) (BeginsPartsBelow room) i j

abbrev pub BeginsParts : ℕ → Beginning
BeginsParts room = BeginsPartsBelow (suc room)

-- Spec = specification NAME [SysAttr] ";" {Head} Parts end "."
abbrev pub BeginsSpec : ℕ → Beginning
BeginsSpec room =
    After k.Specification (After k.Name (May BeginsSysAttr IsSysAttr (After k.Semicolon (BeginHeads (Then (BeginsParts room) (IsParts room) (After k.End (OneToken k.Dot)))))))

-- the first so many of the tokens begin a sentence
unfoldable pub Begins : List Placed → ℕ → Type 0
Begins tokens n = BeginsSpec max_nesting (input tokens 0) (skip n (input tokens 0))
