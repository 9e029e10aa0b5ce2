-- A text followed by lines: the old text stays in front, and if texts are exact the lines are those
-- of the tree.
use Rattle.std.proofs.Common.{◌≡◌, ℕ, ◌+◌, Bool, true, false, List, [], ◌++◌, Result, Ok, Err, OnOk, is_ok}
use Rattle.std.proofs.Common.{if◌then◌else◌, codes, refl, sym, ap, subst, ◌∙◌, append-nil, append_assoc}
use Rattle.std.specs.Fmt.{decimal}
use Rattle.ua_texts.specs.PlainLeaf.{Adds, Either}
use Rattle.ua_fields.specs.declared.style.FieldStyle.{FieldStyle}
use Rattle.ua_fields.specs.Styles.{exact_field_style}
use Rattle.ua_fields.specs.Messages.{AreMessageLines, message_lines}
use Rattle.ua_fields.specs.Tree.{Leaf, IsText, Tree, Array, Elements, Fields, text, opened, array, structure, null, elements}
use Rattle.ua_fields.specs.Tree.{no_elements, element, no_fields, field, count, deeper, line, lines, array_lines, element_lines, field_lines}
use Rattle.ua_fields.specs.Tree.{field_margin, field_path, element_path, IsBehind, IsArrayBehind, AreElementsBehind, AreFieldsBehind}

-- ---- what stands in front

-- what a text holds, or nothing below it
opened_shifted : (plain : Bool) (front old mid new : List ℕ) (Is : List ℕ → List ℕ → Type 0) → mid ≡ front ++ old
    → (Is (front ++ old) new → (more : List ℕ) × (new ≡ front ++ more) × Is old more) → Either plain (Is mid new) (new ≡ mid)
    → (more : List ℕ) × (new ≡ front ++ more) × Either plain (Is old more) (more ≡ old)
opened_shifted true front old mid new Is e f h = f (subst (λ (x : List ℕ). Is x new) e h)
opened_shifted false front old mid new Is e f h = (old, h ∙ e, refl)

mutual
  pub shifted : (style : FieldStyle) (margin path front old : List ℕ) (tree : Tree) (new : List ℕ) → IsBehind style margin path (front ++ old) tree new
      → (more : List ℕ) × (new ≡ front ++ more) × IsBehind style margin path old tree more
  shifted style margin path front old (text leaf) new h = (old ++ line margin path h.0, h.1 ∙ append_assoc front old (line margin path h.0), (h.0, refl, h.2))
  shifted style margin path front old (opened leaf inner) new h =
      let rest = opened_shifted style.plain front (old ++ line margin path h.0) h.1 new (λ x y. IsBehind style (deeper margin) path x inner y)
      (h.2 ∙ append_assoc front old (line margin path h.0)) (shifted style (deeper margin) path front (old ++ line margin path h.0) inner new) h.4 in
      (rest.0, rest.1, (h.0, old ++ line margin path h.0, refl, h.3, rest.2))
  shifted style margin path front old (array items) new h = array_shifted style margin path front old items new h
  shifted style margin path front old (structure inner) new h = fields_shifted style margin path front old inner new h

  array_shifted : (style : FieldStyle) (margin path front old : List ℕ) (items : Array) (new : List ℕ)
      → IsArrayBehind style margin path (front ++ old) items new → (more : List ℕ) × (new ≡ front ++ more) × IsArrayBehind style margin path old items more
  array_shifted style margin path front old null new h = (
    old ++ line margin path (codes "null"),
    h ∙ append_assoc front old (line margin path (codes "null")),
    refl,
  )
  array_shifted style margin path front old (elements items) new h =
      elements_shifted style (deeper margin) path 0 front (old ++ line margin path (decimal (count items))) items new
      (subst (λ (x : List ℕ). AreElementsBehind style (deeper margin) path 0 x items new) (append_assoc front old (line margin path (decimal (count items)))) h)

  elements_shifted : (style : FieldStyle) (margin path : List ℕ) (index : ℕ) (front old : List ℕ) (items : Elements) (new : List ℕ)
      → AreElementsBehind style margin path index (front ++ old) items new → (more : List ℕ) × (new ≡ front ++ more)
      × AreElementsBehind style margin path index old items more
  elements_shifted style margin path index front old no_elements new h = (old, h, refl)
  elements_shifted style margin path index front old (element tree others) new h =
      let one = shifted style margin (element_path path index) front old tree h.0 h.1 in
      let rest = elements_shifted style margin path (index + 1) front one.0 others new
      (subst (λ (x : List ℕ). AreElementsBehind style margin path (index + 1) x others new) one.1 h.2) in
      (rest.0, rest.1, (one.0, one.2, rest.2))

  pub fields_shifted : (style : FieldStyle) (margin path front old : List ℕ) (inner : Fields) (new : List ℕ)
      → AreFieldsBehind style margin path (front ++ old) inner new → (more : List ℕ) × (new ≡ front ++ more) × AreFieldsBehind style margin path old inner more
  fields_shifted style margin path front old no_fields new h = (old, h, refl)
  fields_shifted style margin path front old (field name tree others) new h =
      let one = shifted style (field_margin margin tree) (field_path path name) front old tree h.0 h.1 in
      let rest = fields_shifted style margin path front one.0 others new (subst (λ (x : List ℕ). AreFieldsBehind style margin path x others new) one.1 h.2) in
      (rest.0, rest.1, (one.0, one.2, rest.2))

-- a line with a text of this leaf was added
pub text_line : {E : Type 0} (r : Result (Unit {0}) E) (style : FieldStyle) (margin path old start mid new : List ℕ) (leaf : Leaf)
    → start ≡ old ++ (margin ++ (path ++ codes " "))
    → ((shown : List ℕ) × (mid ≡ start ++ shown) × IsText style leaf shown) → new ≡ (if is_ok r then mid ++ codes "\n" else mid)
    → OnOk r ((shown : List ℕ) × (new ≡ old ++ line margin path shown) × IsText style leaf shown)
unfolding line
text_line (Ok u) style margin path old start mid new leaf s h e =
    let back = h.0 ++ codes "\n" in (
      h.0,
      e ∙ ap (λ (t : List ℕ). t ++ codes "\n") h.1 ∙ ap (λ (t : List ℕ). (t ++ h.0) ++ codes "\n") s
          ∙ append_assoc (old ++ (margin ++ (path ++ codes " "))) h.0 (codes "\n")
          ∙ append_assoc old (margin ++ (path ++ codes " ")) back
          ∙ ap (λ (t : List ℕ). old ++ t) (append_assoc margin (path ++ codes " ") back)
          ∙ ap (λ (t : List ℕ). old ++ (margin ++ t)) (append_assoc path (codes " ") back),
      h.2,
    )
text_line (Err x) style margin path old start mid new leaf s h e = tt

-- ---- exact texts

mutual
  exact_behind : (names : Bool) (margin path old : List ℕ) (tree : Tree) (new : List ℕ) → IsBehind (exact_field_style names) margin path old tree new
      → new ≡ old ++ lines names margin path tree
  exact_behind names margin path old (text leaf) new h = h.1 ∙ ap (λ (t : List ℕ). old ++ line margin path t) h.2
  exact_behind names margin path old (opened leaf inner) new h = h.4 ∙ h.2 ∙ ap (λ (t : List ℕ). old ++ line margin path t) h.3
  exact_behind names margin path old (array items) new h = exact_array names margin path old items new h
  exact_behind names margin path old (structure inner) new h = exact_fields names margin path old inner new h

  exact_array : (names : Bool) (margin path old : List ℕ) (items : Array) (new : List ℕ) → IsArrayBehind (exact_field_style names) margin path old items new
      → new ≡ old ++ array_lines names margin path items
  exact_array names margin path old null new h = h
  exact_array names margin path old (elements items) new h =
      exact_elements names (deeper margin) path 0 (old ++ line margin path (decimal (count items))) items new h
      ∙ append_assoc old (line margin path (decimal (count items))) (element_lines names (deeper margin) path 0 items)

  exact_elements : (names : Bool) (margin path : List ℕ) (index : ℕ) (old : List ℕ) (items : Elements) (new : List ℕ)
      → AreElementsBehind (exact_field_style names) margin path index old items new → new ≡ old ++ element_lines names margin path index items
  exact_elements names margin path index old no_elements new h = h ∙ sym (append-nil old)
  exact_elements names margin path index old (element tree others) new h =
      exact_elements names margin path (index + 1) h.0 others new h.2
      ∙ ap (λ (t : List ℕ). t ++ element_lines names margin path (index + 1) others) (exact_behind names margin (element_path path index) old tree h.0 h.1)
      ∙ append_assoc old (lines names margin (element_path path index) tree) (element_lines names margin path (index + 1) others)

  exact_fields : (names : Bool) (margin path old : List ℕ) (inner : Fields) (new : List ℕ) → AreFieldsBehind (exact_field_style names) margin path old inner new
      → new ≡ old ++ field_lines names margin path inner
  exact_fields names margin path old no_fields new h = h ∙ sym (append-nil old)
  exact_fields names margin path old (field name tree others) new h =
      exact_fields names margin path h.0 others new h.2
      ∙ ap (λ (t : List ℕ). t ++ field_lines names margin path others) (exact_behind names (field_margin margin tree) (field_path path name) old tree h.0 h.1)
      ∙ append_assoc old (lines names (field_margin margin tree) (field_path path name) tree) (field_lines names margin path others)

-- a message's lines, where they are exact, are those of its tree
pub exact_message : (names : Bool) (tree : Tree) (told : List ℕ) → AreMessageLines (exact_field_style names) tree told → told ≡ message_lines names tree
exact_message names tree told h = exact_behind names (codes "  ") [] [] tree told h

-- the lines of a message were added
pub message_added : {E : Type 0} (r : Result (Unit {0}) E) (style : FieldStyle) (tree : Tree) (old new : List ℕ)
    → OnOk r (IsBehind style (codes "  ") [] old tree new) → Adds r old new (AreMessageLines style tree)
message_added (Ok u) style tree old new h =
    shifted style (codes "  ") [] old [] tree new (subst (λ (x : List ℕ). IsBehind style (codes "  ") [] x tree new) (sym (append-nil old)) h)
message_added (Err e) style tree old new h = tt
