-- The texts of frames: one frame more, and exact ones.
use Rattle.std.proofs.Common.{◌≡◌, ℕ, Bool, true, false, ◌&&◌, List, [], ◌∷◌, ◌++◌, Option, Some, None}
use Rattle.std.proofs.Common.{cond, codes, length, refl, sym, ap, ap₂, subst, ◌∙◌, append-nil, append_assoc}
use Rattle.std.specs.List.{flat_map}
use Rattle.ua_frame.specs.declared.frame.Frame.{Frame}
use Rattle.ua_frame.specs.declared.kind.Kind.{Kind}
use Rattle.ua_frame.specs.declared.kind.Kind.TheVariants.{Hel, Ack as Acknowledge, Msg, Opn, Clo}
use Rattle.ua_frame.specs.declared.kind.Kind.TheVariants as kind
use Rattle.ua_frame.specs.After.{each_after, each_from}
use Rattle.ua_frame.specs.Frames.{frame_size}
use Rattle.ua_frame.specs.Run.{events}
use Rattle.ua_chunk.specs.declared.chunk.Chunk.{Chunk}
use Rattle.ua_chunk.specs.Delivered.{given}
use Rattle.ua_chunk.specs.Item.{Item}
use Rattle.ua_chunk.specs.Item.Item.{Whole, Aborted}
use Rattle.ua_chunk.specs.Layout.{chunk_in}
use Rattle.ua_chunk.specs.Opening.{opening_in}
use Rattle.ua_texts.specs.PlainLeaf.{Either}
use Rattle.ua_fields.specs.declared.body.BodyKind.{BodyKind}
use Rattle.ua_pair.specs.declared.options.DissectOptions.{DissectOptions}
use Rattle.ua_fields.specs.declared.style.FieldStyle.{FieldStyle}
use Rattle.ua_pair.specs.Before.{message_chunks}
use Rattle.ua_fields.specs.Bodies.{IsBodyText, IsFound, IsHeaderText, body_fields, header_fields, message_kind, opening_kind}
use Rattle.ua_pair.specs.Dissected.{AreTexts, rules}
use Rattle.ua_pair.specs.Lines.{chunk_line, left_out, message_line, opening_line}
use Rattle.ua_pair.specs.Names.{is_unsupported, message_title, opening_name}
use Rattle.ua_fields.specs.Styles.{exact_field_style}
use Rattle.ua_pair.specs.Styles.{style_of}
use Rattle.ua_pair.specs.Told.{AreFieldsOf, AreParts, AreTextsBehind, IsChunkText, IsFrameText, IsHeaderOf, IsHeaderWithin}
use Rattle.ua_pair.specs.Told.{IsItemText, IsOpeningText, IsTextBy, IsWithin, is_large}
use Rattle.ua_pair.specs.Told.{chunk_lines, field_lines_of, frame_lines, header_lines_of, item_lines, line_if, lines_by, opening_lines, place_behind}
use Rattle.ua_fields.proofs.Bodies.{exact_header, exact_text_of}

-- ---- one frame more

behind_push : (options : DissectOptions) (before fs : List Frame) (f : Frame) (told lines : List ℕ) → AreTextsBehind options before fs told
    → IsFrameText options (before ++ fs) f lines → AreTextsBehind options before (fs ++ f ∷ []) (told ++ lines)
behind_push options before [] f told lines h k =
    let at : IsFrameText options before f lines = subst (λ (b : List Frame). IsFrameText options b f lines) (append-nil before) k in
    (lines, [], ap (λ (t : List ℕ). t ++ lines) h ∙ sym (append-nil lines), at, refl)
behind_push options before (g ∷ fs) f told lines h k =
    let at : IsFrameText options ((before ++ g ∷ []) ++ fs) f lines = subst (λ (b : List Frame). IsFrameText options b f lines)
    (sym (append_assoc before (g ∷ []) fs)) k in
    (h.0, h.1 ++ lines, ap (λ (t : List ℕ). t ++ lines) h.2 ∙ append_assoc h.0 h.1 lines, h.3, behind_push options (before ++ g ∷ []) fs f h.1 lines h.4 at)

pub texts_push : (options : DissectOptions) (fs : List Frame) (f : Frame) (told lines : List ℕ) → AreTexts options fs told → IsFrameText options fs f lines
    → AreTexts options (fs ++ f ∷ []) (told ++ lines)
texts_push options fs f told lines h k = behind_push options [] fs f told lines h k

-- ---- exact ones

exact_if : (wanted : Bool) (Is : List ℕ → Type 0) (shown text : List ℕ) → ((t : List ℕ) → Is t → t ≡ shown) → Either wanted (Is text) (text ≡ [])
    → text ≡ cond wanted shown []
exact_if true Is shown text same h = same text h
exact_if false Is shown text same h = h

-- one text, or others of which something holds
exact_either : (large : Bool) (Is : List ℕ → Type 0) (one two text : List ℕ) → ((t : List ℕ) → Is t → t ≡ two) → Either large (text ≡ one) (Is text)
    → text ≡ cond large one two
exact_either true Is one two text same h = h
exact_either false Is one two text same h = same text h

exact_style : (options : DissectOptions) → options.plain ≡ false → style_of options ≡ exact_field_style options.names
exact_style options none = ap (λ (p : Bool). record { names = options.names; plain = p }) none

module _ (options : DissectOptions) (none : options.plain ≡ false) where
  exact_fields : (kind : BodyKind) (octets text : List ℕ) → AreFieldsOf options kind octets text → text ≡ field_lines_of options kind octets
  exact_fields kind octets text h =
      let fields = body_fields options.names kind octets in
      let large = is_large options.largest octets in
      exact_if options.fields (IsWithin options kind octets) (cond large (left_out options.largest) fields) text
      (λ t g. exact_either large (IsBodyText (style_of options) kind octets) (left_out options.largest) fields t
      (λ u k. exact_text_of options.names kind octets u (subst (λ (s : FieldStyle). IsBodyText s kind octets u) (exact_style options none) k)) g) h

  exact_head : (unsupported : Bool) (octets text : List ℕ) → IsHeaderOf options unsupported octets text → text ≡ header_lines_of options unsupported octets
  exact_head unsupported octets text h =
      let fields = header_fields options.names options.side octets in
      let large = is_large options.largest octets in
      exact_if (options.fields && unsupported) (IsHeaderWithin options octets) (cond large [] fields) text
      (λ t g. exact_either large (IsHeaderText (style_of options) options.side octets) [] fields t
      (λ u k. exact_header options.names options.side octets u (subst (λ (s : FieldStyle). IsHeaderText s options.side octets u) (exact_style options none) k))
      g) h

  exact_item : (item : Item) (text : List ℕ) → IsItemText options item text → text ≡ item_lines options item
  exact_item (Whole id octets) text h =
      h.2 ∙ ap (λ (t : List ℕ). message_line id (length octets) (message_title options.names options.side octets) ++ t)
      (ap₂ (λ (x y : List ℕ). x ++ y) (exact_fields (message_kind options.side) octets h.0 h.3)
      (exact_head (is_unsupported options.side octets) octets h.1 h.4))
  exact_item (Aborted id code reason) text h = h

  exact_parts : (items : List Item) (text : List ℕ) → AreParts (IsItemText options) items text → text ≡ flat_map (item_lines options) items
  exact_parts [] text h = h
  exact_parts (item ∷ items) text h = h.2 ∙ ap₂ (λ (x y : List ℕ). x ++ y) (exact_item item h.0 h.3) (exact_parts items h.1 h.4)

  exact_found : {A : Type 0} (Is : A → List ℕ → Type 0) (lines : A → List ℕ) (o : Option A) (text : List ℕ) → ((a : A) (t : List ℕ) → Is a t → t ≡ lines a)
      → IsFound Is o text → text ≡ line_if lines o
  exact_found Is lines None text same h = h
  exact_found Is lines (Some a) text same h = same a text h

  exact_by : (k : Kind) (cs : List Chunk) (place : ℕ) (f : Frame) (text : List ℕ) → IsTextBy k options cs place f text → text ≡ lines_by k options cs place f
  exact_by Hel cs place f text h = h
  exact_by Acknowledge cs place f text h = h
  exact_by kind.Err cs place f text h = h
  exact_by Msg cs place f text h =
      exact_found (IsChunkText options cs place (frame_size f)) (chunk_lines options cs place (frame_size f)) (chunk_in f) text
      (λ c t g. g.1 ∙ ap (λ (x : List ℕ). chunk_line (codes "MSG") place (frame_size f) c ++ x) (exact_parts (given cs c) g.0 g.2)) h
  exact_by Opn cs place f text h =
      exact_found (IsOpeningText options place (frame_size f)) (opening_lines options place (frame_size f)) (opening_in f) text
      (λ c t g. g.1
      ∙ ap (λ (x : List ℕ). opening_line place (frame_size f) c ++ x)
      (g.2.1 ∙ ap (λ (x : List ℕ). message_line c.request (length c.body) (opening_name options.side c.body) ++ x)
      (exact_fields (opening_kind options.side) c.body g.2.0 g.2.2))) h
  exact_by Clo cs place f text h = h

  exact_frame : (before : List Frame) (f : Frame) (text : List ℕ) → IsFrameText options before f text → text ≡ frame_lines options before f
  unfolding IsFrameText frame_lines
  exact_frame before f text h = exact_by f.kind (message_chunks before) (place_behind before) f text h

  -- ---- and the lines that `rules` tells are such ones

  events_are : (before fs : List Frame) (text : List ℕ) → AreTextsBehind options before fs text → text ≡ each_from (frame_lines options) before fs
  events_are before [] text h = h
  events_are before (f ∷ fs) text h = h.2 ∙ ap₂ (λ (x y : List ℕ). x ++ y) (exact_frame before f h.0 h.3) (events_are (before ++ f ∷ []) fs h.1 h.4)

  pub texts_exact : (fs : List Frame) (text : List ℕ) → AreTexts options fs text → text ≡ events (rules options) fs
  unfolding each_after
  texts_exact fs text h = events_are [] fs text h
