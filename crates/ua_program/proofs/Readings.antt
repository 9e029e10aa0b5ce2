-- How far the lines of a file have come.
use Rattle.std.proofs.Common.{◌≡◌, ◌⊎◌, inl, inr, ℕ, zero, suc, ◌<◌, take, ◌+◌, length, Bool, true, false, List}
use Rattle.std.proofs.Common.{[], ◌++◌, Option, Some, None, is_none, unwrap_or, refl, sym, ap, subst, ◌∙◌, append_assoc, append-nil}
use Rattle.std.proofs.lemmas.List.{append_cancel_left}
use Rattle.std.specs.Io.KnownBytes.{Appends, Consumes, IsAtEnd}
use Rattle.std.specs.Borrow.{Bor}
use Rattle.ua_pair.specs.declared.dissector.Dissector.{Dissector}
use Rattle.ua_pair.specs.declared.options.DissectOptions.{DissectOptions}
use Rattle.ua_pair.specs.Dissecting.{StandsBehind, TellsMore, EndsLines}
use Rattle.hex.specs.Hex.{decode_of}
use Rattle.ua_program.specs.Looped.{HasLoopedUntil}
use Rattle.ua_program.specs.Talked.{HasTalked}
use Rattle.ua_serving.specs.AtOnce.{ServesSomeAsked}
use Rattle.ua_words.specs.declared.arguments.Serve.{Serve}
use Rattle.ua_program.specs.Printed.{HasBegun, HasDissected, HasListed, HasToldSome}
use Rattle.ua_answers.specs.declared.style.AnswerStyle.{AnswerStyle}
use Rattle.ua_answers.specs.declared.style.EndpointStyle.{EndpointStyle}
use Rattle.ua_report.specs.Digits.{HexSoFar, HoldsSoFar, HoldsOctets, HoldsNever, HoldsNone}
use Rattle.ua_report.specs.declared.fault.Fault.{Fault}
use Rattle.ua_report.specs.declared.fault.Fault.TheVariants.{NoMemory, NotHexadecimal}
use Rattle.ua_session.specs.declared.verdict.Verdict.{Verdict}
use Rattle.ua_report.specs.declared.output.Stop.{Stop}
use Rattle.ua_report.specs.declared.output.Stop.TheVariants as stop
use Rattle.ua_program.specs.Dissects.{AreLinesOf, DissectsAll, EndsFile, GivesNone, HasBegunDissecting, IsJudged, LeavesNone, PrintsLast}
use Rattle.ua_program.specs.Dissects.{PrintsNext, PrintsPiece, ReadsIntoFragment, StopsLast, StopsNext, StopsReading, TellsPiece, ToldSoFar}
use Rattle.ua_report.proofs.HexParts.{hex_first}

-- nothing yet
first_holds : (hex : Bool) (half : Option ℕ) → half ≡ None → HoldsSoFar hex half [] []
first_holds false half none = refl
first_holds true half none = subst (λ (h : Option ℕ). HexSoFar h [] []) (sym none) hex_first

pub told_first : (hex : Bool) (options : DissectOptions) (half : Option ℕ) (d : Dissector) → half ≡ None → StandsBehind d options [] []
    → ToldSoFar hex options half d [] []
told_first hex options half d none stands = record { octets = []; holds = first_holds hex half none; stands = stands }

-- a piece of octets as they are
pub plain_piece : (hex : Bool) (old new : Option ℕ) (content octets piece : List ℕ) → hex ≡ false → HoldsSoFar hex old content octets
    → HoldsSoFar hex new (content ++ piece) (octets ++ piece)
plain_piece false old new content octets piece plain h = ap (λ (o : List ℕ). o ++ piece) h
plain_piece true old new content octets piece plain h = absurd cc

-- a piece of digits
pub as_digits : (hex : Bool) (half : Option ℕ) (content octets : List ℕ) → hex ≡ true → HoldsSoFar hex half content octets → HexSoFar half content octets
as_digits true half content octets digits h = h
as_digits false half content octets digits h = absurd cc

pub digit_piece : (hex : Bool) (half : Option ℕ) (content octets : List ℕ) → hex ≡ true → HexSoFar half content octets → HoldsSoFar hex half content octets
digit_piece true half content octets digits h = h
digit_piece false half content octets digits h = absurd cc

-- lines more of a piece whose octets are these
pub tells_piece : (hex : Bool) (options : DissectOptions) (half : Option ℕ) (e : Dissector) (content octets told old new : List ℕ)
    → HoldsSoFar hex half content octets → TellsMore e options octets told old new → TellsPiece hex options half e content told old new
tells_piece hex options half e content octets told old new holds t = record {
  lines = t.lines;
  added = t.added;
  so_far = record { octets = octets; holds = holds; stands = t.stands };
}

pub tells_so : (hex : Bool) (options : DissectOptions) (half half2 : Option ℕ) (e e2 : Dissector) (content octets told old new new2 : List ℕ) → half ≡ half2
    → e ≡ e2 → new ≡ new2 → HoldsSoFar hex half2 content octets → TellsMore e2 options octets told old new2 → TellsPiece hex options half e content told old new
tells_so hex options half half2 e e2 content octets told old new new2 p q r holds t =
    tells_piece hex options half e content octets told old new
    (subst (λ (h : Option ℕ). HoldsSoFar hex h content octets) (sym p) holds)
    (subst (λ (d : Dissector). TellsMore d options octets told old new) (sym q) (subst (λ (n : List ℕ). TellsMore e2 options octets told old n) (sym r) t))

-- the content is there: with --hex each digit has its pair
pub whole_octets : (hex : Bool) (half : Option ℕ) (content octets : List ℕ) → (hex ≡ false) ⊎ (half ≡ None) → HoldsSoFar hex half content octets
    → HoldsOctets hex content octets
whole_octets false half content octets whole h = h
whole_octets true None content octets whole h = ap decode_of (h.parts ∙ append-nil h.pairs) ∙ h.decoded
whole_octets true (Some d) content octets (inl plain) h = absurd cc
whole_octets true (Some d) content octets (inr none) h = absurd cc

pub ends_file : (hex : Bool) (options : DissectOptions) (content octets told old new : List ℕ) → HoldsOctets hex content octets
    → EndsLines options octets told old new → EndsFile hex options content told old new
ends_file hex options content octets told old new holds l =
    record { line = l.line; added = l.added; lines = record { octets = octets; holds = holds; lines = l.are } }

-- no digit is left
pub none_left : (half : Option ℕ) → is_none half ≡ true → half ≡ None
none_left None h = refl
none_left (Some d) h = absurd cc

-- known octets that were read, one piece behind the other
pub consumes_more : (a b c : Option (List ℕ)) (x y : List ℕ) → Consumes a b x → Consumes b c y → Consumes a c (x ++ y)
consumes_more None b c x y h k = tt
consumes_more (Some u) None c x y h k = absurd h
consumes_more (Some u) (Some v) None x y h k = absurd k
consumes_more (Some u) (Some v) (Some w) x y h k = h ∙ ap (λ (t : List ℕ). x ++ t) k ∙ sym (append_assoc x y w)

-- known octets that were written, one text behind the other
pub appends_more : (a b c : Option (List ℕ)) (x y : List ℕ) → Appends a b x → Appends b c y → Appends a c (x ++ y)
appends_more None b c x y h k = tt
appends_more (Some u) None c x y h k = absurd h
appends_more (Some u) (Some v) None x y h k = absurd k
appends_more (Some u) (Some v) (Some w) x y h k = k ∙ ap (λ (t : List ℕ). t ++ y) h ∙ append_assoc u x y

-- nothing is left behind what holds nothing
pub at_end_none : (known after : Option (List ℕ)) (read : List ℕ) (hex : Bool) (content : List ℕ) → read ≡ [] → Consumes known after read → IsAtEnd after
    → HoldsNone hex content → LeavesNone hex content known
at_end_none None after read hex content none h end holds rest is = absurd cc
at_end_none (Some xs) None read hex content none h end holds rest is = absurd h
at_end_none (Some xs) (Some ys) read hex content none h end holds rest is =
    let left : rest ≡ [] = sym (ap (λ (o : Option (List ℕ)). unwrap_or o []) is) ∙ h ∙ ap (λ (u : List ℕ). u ++ ys) none ∙ end in
    λ octets k. holds octets (subst (λ (u : List ℕ). HoldsOctets hex u octets) (ap (λ (u : List ℕ). content ++ u) left ∙ append-nil content) k)

-- what is read behind content that can't be made good
pub never_left : (known after : Option (List ℕ)) (read : List ℕ) (hex : Bool) (content : List ℕ) → Consumes known after read → HoldsNever hex (content ++ read)
    → LeavesNone hex content known
never_left None after read hex content h never rest is = absurd cc
never_left (Some xs) None read hex content h never rest is = absurd h
never_left (Some xs) (Some ys) read hex content h never rest is =
    let parts : rest ≡ read ++ ys = sym (ap (λ (o : Option (List ℕ)). unwrap_or o []) is) ∙ h in
    λ octets k.
    never ys octets (subst (λ (u : List ℕ). HoldsOctets hex u octets) (ap (λ (u : List ℕ). content ++ u) parts ∙ sym (append_assoc content read ys)) k)

-- a fault of a file, as what stops the command
pub stops_next : (hex : Bool) (file : Bor (List ℕ)) (content : List ℕ) (known : Option (List ℕ)) (fault : Fault) (why : Stop) → why ≡ stop.Fault fault
    → (fault ≡ NoMemory) ⊎ ((fault ≡ NotHexadecimal file) × LeavesNone hex content known) → StopsNext hex file content known why
stops_next hex file content known fault why is (inl memory) = inr (inl (is ∙ ap stop.Fault memory))
stops_next hex file content known fault why is (inr refused) = inr (inr (inr (is ∙ ap stop.Fault refused.0, refused.1)))

pub reason_left : {fault : Fault} {file : Bor (List ℕ)} {P Q : Type 0} → (P → Q) → (fault ≡ NoMemory) ⊎ ((fault ≡ NotHexadecimal file) × P)
    → (fault ≡ NoMemory) ⊎ ((fault ≡ NotHexadecimal file) × Q)
reason_left f (inl memory) = inl memory
reason_left f (inr refused) = inr (refused.0, f refused.1)

-- a fault of a file at its last line, as what stops the command
pub stops_last : (hex : Bool) (file : Bor (List ℕ)) (content : List ℕ) (fault : Fault) (why : Stop) → why ≡ stop.Fault fault
    → (fault ≡ NoMemory) ⊎ ((fault ≡ NotHexadecimal file) × HoldsNone hex content) → StopsLast hex file content why
stops_last hex file content fault why is (inl memory) = inr (inl (is ∙ ap stop.Fault memory))
stops_last hex file content fault why is (inr refused) = inr (inr (is ∙ ap stop.Fault refused.0, refused.1))

-- what stops at the last line stops the last read
pub last_stops : (hex : Bool) (file : Bor (List ℕ)) (content all : List ℕ) (known : Option (List ℕ)) (why : Stop)
    → (HoldsNone hex all → LeavesNone hex content known) → StopsLast hex file all why → StopsNext hex file content known why
last_stops hex file content all known why leaves (inl output) = inl output
last_stops hex file content all known why leaves (inr (inl memory)) = inr (inl memory)
last_stops hex file content all known why leaves (inr (inr refused)) = inr (inr (inr (refused.0, leaves refused.1)))

-- the last line is printed, at the end
pub prints_last : (verdict : Verdict) (hex : Bool) (options : DissectOptions) (content told cleared text : List ℕ) (before after old new : Option (List ℕ))
    (read : List ℕ) → read ≡ [] → Consumes before after read → IsAtEnd after → cleared ≡ [] → EndsFile hex options content told cleared text
    × IsJudged verdict hex options content → Appends old new text → PrintsLast verdict hex options content told before after old new
prints_last verdict hex options content told cleared text before after old new read none consumed end empty e printed = record {
  piece = [];
  consumed = subst (λ (u : List ℕ). Consumes before after u) none consumed;
  line = e.0.line;
  added = subst (λ (u : List ℕ). Appends old new u) (e.0.added ∙ ap (λ (u : List ℕ). u ++ e.0.line) empty) printed;
  lines = subst (λ (u : List ℕ). AreLinesOf hex options u (told ++ e.0.line)) (sym (append-nil content)) e.0.lines;
  whole = inl end;
  judged = subst (λ (u : List ℕ). IsJudged verdict hex options u) (sym (append-nil content)) e.1;
}

-- the last line is printed at a frame that is refused
pub prints_refused : (verdict : Verdict) (hex : Bool) (options : DissectOptions) (half : Option ℕ) (d : Dissector)
    (content piece told cleared mid text : List ℕ) (before after old new : Option (List ℕ)) → hex ≡ false
    → ((octets lines more : List ℕ) → StandsBehind d options octets lines → StandsBehind d options (octets ++ more) lines)
    → Consumes before after piece → cleared ≡ [] → TellsPiece hex options half d (content ++ piece) told cleared mid
    → ((c t : List ℕ) → ToldSoFar hex options half d c t → EndsFile hex options c t mid text × IsJudged verdict hex options c)
    → Appends old new text → PrintsLast verdict hex options content told before after old new
prints_refused verdict hex options half d content piece told cleared mid text before after old new plain stays consumed empty t ends printed =
    let all = content ++ piece in
    let lines = told ++ t.lines in
    let s = t.so_far in
    let e = (ends all lines s).0 in
    record {
      piece = piece;
      consumed = consumed;
      line = t.lines ++ e.line;
      added = subst (λ (u : List ℕ). Appends old new u)
          (e.added ∙ ap (λ (u : List ℕ). u ++ e.line) (t.added ∙ ap (λ (u : List ℕ). u ++ t.lines) empty)
          ∙ append_assoc [] t.lines e.line) printed;
      lines = subst (λ (u : List ℕ). AreLinesOf hex options all u) (append_assoc told t.lines e.line) e.lines;
      whole = inr (λ more.
          let s2 : ToldSoFar hex options half d (all ++ more) lines = record {
            octets = s.octets ++ more;
            holds = plain_piece hex half half all s.octets more plain s.holds;
            stands = stays s.octets lines more s.stands;
          } in
          let e2 = (ends (all ++ more) lines s2).0 in
          let same : e2.line ≡ e.line = append_cancel_left mid e2.line e.line (sym e2.added ∙ e.added) in
          subst (λ (u : List ℕ). AreLinesOf hex options (all ++ more) u) (ap (λ (u : List ℕ). lines ++ u) same ∙ append_assoc told t.lines e.line) e2.lines);
      judged = (ends all lines s).1;
    }

-- nothing was read, so nothing is left
pub nothing_read : (n : ℕ) (known after : Option (List ℕ)) (piece : List ℕ) → ReadsIntoFragment (Some n) known after piece → n ≡ 0 → 0 < length piece
    → (take n piece ≡ []) × IsAtEnd after
nothing_read zero known after piece r none room = (refl, r.2 refl room)
nothing_read (suc n) known after piece r none room = absurd cc

-- octets as they are stand for octets
pub none_plain : {P : Type 0} (hex : Bool) (content : List ℕ) → hex ≡ false → HoldsNone hex content → P
none_plain false content is none = absurd (none content refl)
none_plain true content is none = absurd cc

-- ---- all that is read

-- a file was read and its lines were printed so far
pub record ReadSoFar (hex : Bool) (options : DissectOptions) (half : Option ℕ) (d : Dissector) (before now old new : Option (List ℕ)) : Type 0 where
  pub content : List ℕ
  pub told : List ℕ
  pub consumed : Consumes before now content
  pub so_far : ToldSoFar hex options half d content told
  pub added : Appends old new told

consumes_none : (known : Option (List ℕ)) → Consumes known known []
consumes_none None = tt
consumes_none (Some xs) = refl

appends_none : (known : Option (List ℕ)) → Appends known known []
appends_none None = tt
appends_none (Some xs) = sym (append-nil xs)

pub read_first : (hex : Bool) (options : DissectOptions) (half : Option ℕ) (d : Dissector) (known held : Option (List ℕ)) → half ≡ None
    → StandsBehind d options [] [] → ReadSoFar hex options half d known known held held
read_first hex options half d known held none stands = record {
  content = [];
  told = [];
  consumed = consumes_none known;
  so_far = told_first hex options half d none stands;
  added = appends_none held;
}

pub reads_on : (hex : Bool) (options : DissectOptions) (half half2 : Option ℕ) (d e : Dissector) (before now after old held new : Option (List ℕ))
    (s : ReadSoFar hex options half d before now old held) → PrintsPiece hex options half2 e s.content s.told now after held new
    → ReadSoFar hex options half2 e before after old new
reads_on hex options half half2 d e before now after old held new s p = record {
  content = s.content ++ p.piece;
  told = s.told ++ p.lines;
  consumed = consumes_more before now after s.content p.piece s.consumed p.consumed;
  so_far = p.so_far;
  added = appends_more old held new s.told p.lines s.added p.added;
}

pub reads_all : (verdict : Verdict) (hex : Bool) (options : DissectOptions) (half : Option ℕ) (d : Dissector) (before now after old held new : Option (List ℕ))
    (s : ReadSoFar hex options half d before now old held) → PrintsLast verdict hex options s.content s.told now after held new
    → DissectsAll verdict hex options before after old new
reads_all verdict hex options half d before now after old held new s p = record {
  content = s.content ++ p.piece;
  consumed = consumes_more before now after s.content p.piece s.consumed p.consumed;
  text = s.told ++ p.line;
  lines = p.lines;
  whole = p.whole;
  judged = p.judged;
  added = appends_more old held new s.told p.line s.added p.added;
}

pub has_begun : (hex : Bool) (options : DissectOptions) (half : Option ℕ) (d : Dissector) (before now old held : Option (List ℕ))
    → ReadSoFar hex options half d before now old held → HasBegunDissecting hex options before old held
has_begun hex options half d before now old held s = record {
  after = now;
  content = s.content;
  consumed = s.consumed;
  half = half;
  octets = s.so_far.octets;
  holds = s.so_far.holds;
  text = s.told;
  told = s.so_far.stands.are;
  added = s.added;
}

-- what leaves none behind what was read gives none
gives_none : (hex : Bool) (before now : Option (List ℕ)) (content : List ℕ) → Consumes before now content → LeavesNone hex content now → GivesNone hex before
gives_none hex None now content h none all is = absurd cc
gives_none hex (Some xs) None content h none all is = absurd h
gives_none hex (Some xs) (Some ys) content h none all is =
    subst (λ (u : List ℕ). HoldsNone hex u) (sym h ∙ ap (λ (o : Option (List ℕ)). unwrap_or o []) is) (none ys refl)

pub stops_reading : (hex : Bool) (file : Bor (List ℕ)) (before now : Option (List ℕ)) (content : List ℕ) (why : Stop) → Consumes before now content
    → StopsNext hex file content now why → StopsReading hex file before why
stops_reading hex file before now content why h (inl output) = inl output
stops_reading hex file before now content why h (inr (inl memory)) = inr (inl memory)
stops_reading hex file before now content why h (inr (inr (inl read))) = inr (inr (inl read))
stops_reading hex file before now content why h (inr (inr (inr refused))) = inr (inr (inr (refused.0, gives_none hex before now content h refused.1)))

-- a read that is the last one, or is not
pub as_piece : (ended : Option Verdict) (hex : Bool) (options : DissectOptions) (half : Option ℕ) (d : Dissector) (content told : List ℕ)
    (before after old new : Option (List ℕ)) → ended ≡ None → PrintsNext ended hex options half d content told before after old new
    → PrintsPiece hex options half d content told before after old new
as_piece None hex options half d content told before after old new is p = p
as_piece (Some v) hex options half d content told before after old new is p = absurd cc

pub as_last : (ended : Option Verdict) (verdict : Verdict) (hex : Bool) (options : DissectOptions) (half : Option ℕ) (d : Dissector) (content told : List ℕ)
    (before after old new : Option (List ℕ)) → ended ≡ Some verdict → PrintsNext ended hex options half d content told before after old new
    → PrintsLast verdict hex options content told before after old new
as_last (Some v) verdict hex options half d content told before after old new is p =
    let same : v ≡ verdict = cc in
    subst (λ (w : Verdict). PrintsLast w hex options content told before after old new) same p
as_last None verdict hex options half d content told before after old new is p = absurd cc

-- ---- what a run leaves

pub dissected : (verdict : Verdict) (hex : Bool) (options : DissectOptions) (before after old new : Option (List ℕ))
    → DissectsAll verdict hex options before after old new → HasDissected old new
dissected verdict hex options before after old new d = record {
  text = d.text;
  lines = record { options = options; octets = d.lines.octets; lines = d.lines.lines };
  added = d.added;
}

pub told_some : {A : Type 0} (hex : Bool) (options : DissectOptions) (source old new : Option (List ℕ)) → A ⊎ HasBegunDissecting hex options source old new
    → A ⊎ HasToldSome old new
told_some hex options source old new (inl a) = inl a
told_some hex options source old new (inr h) = inr (record { hex = hex; options = options; source = source; lines = h })

-- a script that stopped has begun
pub loop_stops : {A B : Type 0} (people names : Bool) (why : Stop) (old new : Option (List ℕ)) → A ⊎ (B ⊎ HasLoopedUntil people names why old new)
    → A ⊎ (B ⊎ HasBegun old new)
loop_stops people names why old new (inl a) = inl a
loop_stops people names why old new (inr (inl b)) = inr (inl b)
loop_stops people names why old new (inr (inr h)) =
    inr (inr (inr (inr (inr (inr (inl (record { people = people; names = names; fault = Some h.fault; looped = h.looped })))))))

-- a session that stopped has begun
pub talk_stops : {A B : Type 0} (style : AnswerStyle) (old new : Option (List ℕ)) → A ⊎ HasTalked style old new → A ⊎ (B ⊎ HasBegun old new)
talk_stops style old new (inl a) = inl a
talk_stops style old new (inr h) = inr (inr (inr (inr (inr (inr (inr (record { style = style; talked = h })))))))

-- serving that stopped has begun
pub serve_stops : {A B : Type 0} (asked : Serve) (old new : Option (List ℕ)) → A ⊎ (B ⊎ ServesSomeAsked asked old new) → A ⊎ (B ⊎ HasBegun old new)
serve_stops asked old new (inl a) = inl a
serve_stops asked old new (inr (inl b)) = inr (inl b)
serve_stops asked old new (inr (inr h)) = inr (inr (inr (inl (record { asked = asked; lines = inr h }))))

-- asking for endpoints that stopped has begun
pub listed_stops : {A B : Type 0} (style : EndpointStyle) (old new : Option (List ℕ)) → A ⊎ (B ⊎ HasListed style old new) → A ⊎ (B ⊎ HasBegun old new)
listed_stops style old new (inl a) = inl a
listed_stops style old new (inr (inl b)) = inr (inl b)
listed_stops style old new (inr (inr h)) = inr (inr (inr (inr (inl (record { style = style; listed = h })))))

-- where only the writer failed nothing is told, but for a reason that is asked for, and of a server that goes on
pub told_or_not : {A B C Kept D S W : Type 0} → A ⊎ (B ⊎ C) → (A → Kept ⊎ W) → (aloud : Bool) → (aloud ≡ true → S) → (aloud ≡ false → Kept → D)
    → B ⊎ (D ⊎ (C ⊎ (S ⊎ W)))
told_or_not (inl a) f aloud says keeps = untold (f a) aloud says keeps
  where
    untold : {B C Kept D S W : Type 0} → Kept ⊎ W → (aloud : Bool) → (aloud ≡ true → S) → (aloud ≡ false → Kept → D) → B ⊎ (D ⊎ (C ⊎ (S ⊎ W)))
    untold (inl kept) true says keeps = inr (inr (inr (inl (says refl))))
    untold (inl kept) false says keeps = inr (inl (keeps refl kept))
    untold (inr why) aloud says keeps = inr (inr (inr (inr why)))
told_or_not (inr (inl b)) f aloud says keeps = inl b
told_or_not (inr (inr c)) f aloud says keeps = inr (inr (inl c))

-- nothing is told but by a server that goes on
pub untold_or : {D S : Type 0} → (aloud : Bool) → (aloud ≡ true → S) → (aloud ≡ false → D) → D ⊎ S
untold_or true says keeps = inr (says refl)
untold_or false says keeps = inl (keeps refl)

-- the same beside what is told, where the command is done
pub untold_streams : {B C D S W : Type 0} → (aloud : Bool) → (aloud ≡ true → S) → (aloud ≡ false → D) → B ⊎ (D ⊎ (C ⊎ (S ⊎ W)))
untold_streams true says keeps = inr (inr (inr (inl (says refl))))
untold_streams false says keeps = inr (inl (keeps refl))
