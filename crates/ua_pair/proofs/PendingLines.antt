-- The lines of a message that is pending: those of its fields, and of its header.
use Rattle.std.proofs.Common.{◌≡◌, ◌<◌, ℕ, Bool, true, List, [], ◌++◌, cond, length, Result, Ok, Err, OnOk, append_assoc, append-nil, ap, refl, subst, sym, ◌∙◌}
use Rattle.std.proofs.lemmas.Bool.{lt-ltb}
use Rattle.ua_texts.specs.PlainLeaf.{Adds, Either}
use Rattle.ua_fields.specs.Bodies.{IsBodyText, IsHeaderText, body_fields}
use Rattle.ua_fields.specs.declared.body.BodyKind.{BodyKind}
use Rattle.ua_pair.specs.Lines.{left_out}
use Rattle.ua_pair.specs.Styles.{style_of}
use Rattle.ua_pair.specs.Told.{IsHeaderWithin, IsWithin, field_lines_of, is_large}
use Rattle.ua_pair.specs.declared.options.DissectOptions.{DissectOptions}

-- what was added is so as well
pub adds_as : {E : Type 0} (r : Result (Unit {0}) E) (old new : List ℕ) (Holds Wanted : List ℕ → Type 0) → ((text : List ℕ) → Holds text → Wanted text)
    → Adds r old new Holds → Adds r old new Wanted
adds_as (Ok u) old new Holds Wanted w h = (h.0, h.1, w h.0 h.2)
adds_as (Err e) old new Holds Wanted w h = tt

-- the lines of the fields were added, and those of the header after them, or not
pub fields_then_header : {E : Type 0} (r : Result (Unit {0}) E) (old mid new : List ℕ) (Fields Header : List ℕ → Type 0)
    → ((text : List ℕ) × (mid ≡ old ++ text) × Fields text) → Adds r mid new Header
    → Adds r old new (λ text. (fields : List ℕ) × (header : List ℕ) × (text ≡ fields ++ header) × Fields fields × Header header)
fields_then_header (Ok u) old mid new Fields Header h k =
    (h.0 ++ k.0, k.1 ∙ ap (λ (t : List ℕ). t ++ k.0) h.1 ∙ append_assoc old h.0 k.0, (h.0, k.0, refl, h.2, k.2))
fields_then_header (Err e) old mid new Fields Header h k = tt

-- the line that the fields are left out was added
pub large_added : {E : Type 0} (r : Result (Unit {0}) E) (options : DissectOptions) (kind : BodyKind) (octets old new : List ℕ)
    → is_large options.largest octets ≡ true → OnOk r (new ≡ old ++ left_out options.largest) → Adds r old new (IsWithin options kind octets)
large_added (Ok u) options kind octets old new large grown = (
  left_out options.largest,
  grown,
  subst (λ (b : Bool). Either b (left_out options.largest ≡ left_out options.largest)
      (IsBodyText (style_of options) kind octets (left_out options.largest))) (sym large) refl,
)
large_added (Err e) options kind octets old new large grown = tt

-- nothing of the header of one was
pub no_header : (options : DissectOptions) (octets old : List ℕ) → is_large options.largest octets ≡ true
    → (text : List ℕ) × (old ≡ old ++ text) × IsHeaderWithin options octets text
no_header options octets old large = (
  [],
  sym (append-nil old),
  subst (λ (b : Bool). Either b (◌≡◌ {A = List ℕ} [] []) (IsHeaderText (style_of options) options.side octets [])) (sym large) refl,
)

-- the fields of a large body are that line
pub large_left_out : (options : DissectOptions) (kind : BodyKind) (octets : List ℕ) → options.fields ≡ true → options.largest < length octets
    → field_lines_of options kind octets ≡ left_out options.largest
large_left_out options kind octets wanted large =
    let fields = body_fields options.names kind octets in
    ap (λ (b : Bool). cond b (cond (is_large options.largest octets) (left_out options.largest) fields) []) wanted
    ∙ ap (λ (b : Bool). cond b (left_out options.largest) fields) (lt-ltb options.largest (length octets) large)
