-- The namespaces that a node file names, by lines such as `# namespace 2 urn:plant`.
use Rattle.std.specs.Prelude.{◌≡◌, ℕ, ◌+◌, suc, Bool, true, not, ◌&&◌, nat_eq, nat_lt, ⊤, List, [], ◌∷◌, ◌++◌, filter, length, codes}
use Rattle.std.specs.Fmt.{decimal}
use Rattle.std.specs.List.{list_all, starts_with}
use Rattle.ua_nodes.specs.NodeFile.{FileLine, lines_of, numbered_lines}
use Rattle.ua_node_files.specs.declared.namespace.NamespaceFault.{NamespaceFault}
use Rattle.ua_node_files.specs.declared.namespace.NamespaceFault.TheVariants.{Line, OutOfMemory}

-- ---- a line

-- a line that names a namespace, or was meant to: it begins with `# namespace`
abbrev pub is_namespace_line : List ℕ → Bool
is_namespace_line line = starts_with nat_eq line (codes "# namespace")

-- the lines of a text that name namespaces, or were meant to, with their numbers
abbrev pub namespace_lines : List ℕ → List FileLine
namespace_lines text = filter (λ line. is_namespace_line line.text) (numbered_lines 1 (lines_of text))

-- a byte of a URI as a file names it: no space and no control character, and no comma, which
-- separates the elements of an array's text
abbrev pub is_of_uri : ℕ → Bool
is_of_uri octet = nat_lt 32 octet && not (nat_eq octet 44)

-- a URI as a file names it: one byte or more, each of them one of a URI
abbrev pub is_uri : List ℕ → Bool
is_uri uri = nat_lt 0 (length uri) && list_all is_of_uri uri

-- what precedes the URI of an index, as `# namespace 2 `
abbrev pub namespace_line_start : ℕ → List ℕ
namespace_line_start index = codes "# namespace " ++ decimal index ++ codes " "

-- a line names a URI after a prefix
pub record NamesBehind (front line uri : List ℕ) : Type 0 where
  pub line_is : line ≡ front ++ uri
  pub uri_is : is_uri uri ≡ true

-- a line names the namespace of an index, as `# namespace 2 urn:plant`
abbrev pub NamesUri : ℕ → List ℕ → List ℕ → Type 0
NamesUri index line uri = NamesBehind (namespace_line_start index) line uri

-- ---- all lines

-- the first index that a file names: 0 is the standard's namespace, and 1 the server's own (OPC
-- 10000-5, 6.3.1)
abbrev pub first_index : ℕ
first_index = 2

-- the lines name these URIs, each its own, from an index on without a gap
abbrev pub AreNamedFrom : ℕ → List FileLine → List (List ℕ) → Type 0
AreNamedFrom index [] [] = ⊤
AreNamedFrom index [] (uri ∷ uris) = ⊥
AreNamedFrom index (line ∷ lines) [] = ⊥
AreNamedFrom index (line ∷ lines) (uri ∷ uris) = NamesUri index line.text uri × AreNamedFrom (suc index) lines uris

-- the lines name these URIs, from the first index on
abbrev pub AreNamed : List FileLine → List (List ℕ) → Type 0
AreNamed lines uris = AreNamedFrom first_index lines uris

-- the first line that does not name the next namespace: those before it name these, and it names
-- none of the index after them
pub record IsFirstUnnamed (lines : List FileLine) (number : ℕ) : Type 0 where
  pub front : List FileLine
  pub line : List ℕ
  pub back : List FileLine
  pub uris : List (List ℕ)
  pub parts : lines ≡ front ++ record { number = number; text = line } ∷ back
  pub good : AreNamed front uris
  pub bad : (uri : List ℕ) → ¬ (NamesUri (first_index + length uris) line uri)

-- what a fault says of the lines
abbrev pub RefusesNamespaces : List FileLine → NamespaceFault → Type 0
RefusesNamespaces lines (Line number) = IsFirstUnnamed lines number
RefusesNamespaces lines OutOfMemory = Unit {0}
