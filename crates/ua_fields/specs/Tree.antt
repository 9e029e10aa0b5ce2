-- A message as a tree of its fields, and the lines that the tree is printed as.
use Rattle.std.specs.Prelude.{◌≡◌, ℕ, Bool, ◌+◌, List, [], ◌∷◌, ◌++◌, map, Option, Some, None, codes}
use Rattle.std.specs.Fmt.{decimal, signed_decimal}
use Rattle.ua_builtin.specs.declared.date_time.DateTime.{DateTime}
use Rattle.ua_texts.specs.Plain.{IsPlainVariant}
use Rattle.ua_texts.specs.PlainLeaf.{Either, IsPlainDouble, IsPlainMoment}
use Rattle.ua_texts.specs.Shown.{pattern_text}
use Rattle.ua_texts.specs.Values.{variant_text}
use Rattle.ua_variant.specs.Data.{VariantData}
use Rattle.ua_fields.specs.declared.style.FieldStyle.{FieldStyle}

-- ---- texts

-- what a line says: a text, exact and as people write it, each of which may be another one if the
-- names of StatusCodes are wanted; a Double by its bit pattern; a DateTime; a Variant
pub data Leaf : Type 0 where
  fixed : (Bool → List ℕ) → (Bool → List ℕ) → Leaf
  double_of : ℕ → Leaf
  moment_of : DateTime → Leaf
  value_of : VariantData → Leaf

-- the exact text, with or without the names of StatusCodes
abbrev pub exact_leaf_text : Bool → Leaf → List ℕ
exact_leaf_text names (fixed exact plain) = exact names
exact_leaf_text names (double_of bits) = pattern_text 16 bits
exact_leaf_text names (moment_of t) = signed_decimal t.ticks
exact_leaf_text names (value_of v) = variant_text v

-- a text as people write it: that of a Double, and of a Variant that holds one or a Float, is any
-- decimal that reads back as it
abbrev pub IsPlainText : Bool → Leaf → List ℕ → Type 0
IsPlainText names (fixed exact plain) text = text ≡ plain names
IsPlainText names (double_of bits) text = IsPlainDouble bits text
IsPlainText names (moment_of t) text = IsPlainMoment t text
IsPlainText names (value_of v) text = IsPlainVariant names v text

-- a text of this style
abbrev pub IsText : FieldStyle → Leaf → List ℕ → Type 0
IsText style leaf text = Either style.plain (IsPlainText style.names leaf text) (text ≡ exact_leaf_text style.names leaf)

-- ---- trees

-- a field is a text, a text with what it holds as people write it, an array, or a structure; an
-- array is null or has trees as its elements, and a structure has named trees as its fields
mutual
  pub data Tree : Type 0 where
    text : Leaf → Tree
    opened : Leaf → Tree → Tree
    array : Array → Tree
    structure : Fields → Tree

  pub data Array : Type 0 where
    null : Array
    elements : Elements → Array

  pub data Elements : Type 0 where
    no_elements : Elements
    element : Tree → Elements → Elements

  pub data Fields : Type 0 where
    no_fields : Fields
    field : List ℕ → Tree → Fields → Fields

-- a text that is the same in each style
abbrev pub same_leaf : List ℕ → Leaf
same_leaf shown = fixed (λ names. shown) (λ names. shown)

-- the elements of an array, of a list
abbrev pub tree_elements : List Tree → Elements
tree_elements [] = no_elements
tree_elements (tree ∷ trees) = element tree (tree_elements trees)

-- the fields of a structure, each by its name, of a list
abbrev pub named : List (List ℕ × Tree) → Fields
named [] = no_fields
named (entry ∷ entries) = field entry.0 entry.1 (named entries)

-- these values as elements, each as a tree; none for null
abbrev pub array_from : {A : Type 0} → (A → Tree) → Option (List A) → Array
array_from tree None = null
array_from tree (Some items) = elements (tree_elements (map tree items))

-- the array of these values, or the null one
abbrev pub array_of : {A : Type 0} → (A → Tree) → Option (List A) → Tree
array_of tree items = array (array_from tree items)

-- how many elements there are
abbrev pub count : Elements → ℕ
count no_elements = 0
count (element tree others) = 1 + count others

-- ---- lines

-- a line: the leading spaces, the path of a field, a space, and its text
unfoldable pub line : List ℕ → List ℕ → List ℕ → List ℕ
line margin path shown = margin ++ (path ++ (codes " " ++ (shown ++ codes "\n")))

-- the leading spaces, one level deeper
abbrev pub deeper : List ℕ → List ℕ
deeper margin = margin ++ codes "  "

-- the path of a field of the message is its name, as `request_header`; that of a field of a
-- structure follows a dot, as `request_header.timestamp`
abbrev pub field_path : List ℕ → List ℕ → List ℕ
field_path [] name = name
field_path (c ∷ path) name = (c ∷ path) ++ (codes "." ++ name)

-- the path of an element, as `results[0]`
abbrev pub element_path : List ℕ → ℕ → List ℕ
element_path path index = path ++ (codes "[" ++ (decimal index ++ codes "]"))

-- the leading spaces of a field among fields with this margin: a structure has no line of its own,
-- and its fields are one level deeper
abbrev pub field_margin : List ℕ → Tree → List ℕ
field_margin margin (text shown) = margin
field_margin margin (opened shown inner) = margin
field_margin margin (array items) = margin
field_margin margin (structure inner) = deeper margin

-- the lines of a tree with these leading spaces and under this path, with or without the names of
-- StatusCodes: a text on its line, without what it holds; an array's count on its line, or `null`,
-- and its elements one level deeper; of a structure the lines of its fields, in their order
abbrev mutual
  pub lines : Bool → List ℕ → List ℕ → Tree → List ℕ
  lines names margin path (text leaf) = line margin path (exact_leaf_text names leaf)
  lines names margin path (opened leaf inner) = line margin path (exact_leaf_text names leaf)
  lines names margin path (array items) = array_lines names margin path items
  lines names margin path (structure inner) = field_lines names margin path inner

  pub array_lines : Bool → List ℕ → List ℕ → Array → List ℕ
  array_lines names margin path null = line margin path (codes "null")
  array_lines names margin path (elements items) = line margin path (decimal (count items)) ++ element_lines names (deeper margin) path 0 items

  pub element_lines : Bool → List ℕ → List ℕ → ℕ → Elements → List ℕ
  element_lines names margin path index no_elements = []
  element_lines names margin path index (element tree others) = lines names margin (element_path path index) tree ++ element_lines names margin path
      (index + 1) others

  pub field_lines : Bool → List ℕ → List ℕ → Fields → List ℕ
  field_lines names margin path no_fields = []
  field_lines names margin path (field name tree others) = lines names (field_margin margin tree) (field_path path name) tree
      ++ field_lines names margin path others

-- ---- lines after a text, in any style

-- the new text is the old one followed by the lines of a tree, in this style; as people write it,
-- what a text holds is one level deeper
abbrev mutual
  pub IsBehind : FieldStyle → List ℕ → List ℕ → List ℕ → Tree → List ℕ → Type 0
  IsBehind style margin path old (text leaf) new = (shown : List ℕ) × (new ≡ old ++ line margin path shown) × IsText style leaf shown
  IsBehind style margin path old (opened leaf inner) new = (shown : List ℕ) × (mid : List ℕ) × (mid ≡ old ++ line margin path shown)
      × IsText style leaf shown × Either style.plain (IsBehind style (deeper margin) path mid inner new) (new ≡ mid)
  IsBehind style margin path old (array items) new = IsArrayBehind style margin path old items new
  IsBehind style margin path old (structure inner) new = AreFieldsBehind style margin path old inner new

  pub IsArrayBehind : FieldStyle → List ℕ → List ℕ → List ℕ → Array → List ℕ → Type 0
  IsArrayBehind style margin path old null new = new ≡ old ++ line margin path (codes "null")
  IsArrayBehind style margin path old (elements items) new = AreElementsBehind style (deeper margin) path 0 (old ++ line margin path (decimal (count items)))
      items new

  pub AreElementsBehind : FieldStyle → List ℕ → List ℕ → ℕ → List ℕ → Elements → List ℕ → Type 0
  AreElementsBehind style margin path index old no_elements new = new ≡ old
  AreElementsBehind style margin path index old (element tree others) new = (mid : List ℕ) × IsBehind style margin (element_path path index) old tree mid
      × AreElementsBehind style margin path (index + 1) mid others new

  pub AreFieldsBehind : FieldStyle → List ℕ → List ℕ → List ℕ → Fields → List ℕ → Type 0
  AreFieldsBehind style margin path old no_fields new = new ≡ old
  AreFieldsBehind style margin path old (field name tree others) new = (mid : List ℕ)
      × IsBehind style (field_margin margin tree) (field_path path name) old tree mid × AreFieldsBehind style margin path mid others new
