-- Octets that are whole frames, the last of which tells something; and that what was taken up to the last thing that is waited for is all that tells it.
use Rattle.std.proofs.Common.{◌≡◌, ◌⊎◌, inl, inr, ℕ, ◌<◌, List, [], ◌∷◌, ◌++◌, length, map}
use Rattle.std.proofs.Common.{refl, sym, ◌∙◌, ap, subst, arith, append-nil, append_assoc, length-append}
use Rattle.std.specs.List.{AllByRecursion}
use Rattle.std.proofs.lemmas.List.{nil_from_length}
use Rattle.ua_frame.specs.After.{each_from}
use Rattle.ua_frame.specs.Frames.{IsSized, frame_octets, frames_octets}
use Rattle.ua_frame.specs.Run.{Going, Rules, Run, events}
use Rattle.ua_frame.specs.declared.frame.Frame.{Frame}
use Rattle.ua_frame.proofs.Streams.{events-push}
use Rattle.ua_frame.proofs.Unique.{unique}
use Rattle.ua_chunk.specs.Cutting.{chunk_of, chunks_octets, numbered}
use Rattle.ua_chunk.specs.Delivered.{given_by}
use Rattle.ua_chunk.specs.Item.{Item}
use Rattle.ua_chunk.specs.Layout.{frame_of}
use Rattle.ua_chunk.specs.Sequence.{next_number}
use Rattle.ua_chunk.specs.declared.chunk.Chunk.{Chunk}
use Rattle.ua_chunk.specs.declared.flag.Flag.{Flag}
use Rattle.ua_chunk.specs.declared.flag.Flag.TheVariants.{F, C, A}
use Rattle.ua_chunk.specs.declared.lane.Lane.{Lane}
use Rattle.ua_chunk.proofs.Lists.{map_push}
use Rattle.ua_channel.specs.Content.{content}
use Rattle.ua_channel.specs.Content.Content.{Sends}
use Rattle.ua_channel_laws.proofs.ReadOn.{begins_run, events_on, one_octets, told_behind}
use Rattle.ua_channel_laws.proofs.Sized.{frames_behind}
use Rattle.ua_channel_laws.proofs.Written.{IsNumbered, chunk_carried}
use Rattle.ua_channel_laws.proofs.Lists.{split_last}

-- ---- octets that tell something at their last

-- the last of frames tells something
pub record EndTelling {E X : Type 0} (R : Rules E X) (frames : List Frame) : Type 0 where
  pub before : List Frame
  pub last : Frame
  pub parts : frames ≡ before ++ last ∷ []
  pub some : 0 < length (R.tells before last)

-- octets are whole frames, the last of which tells something
abbrev pub TellsLast : {E X : Type 0} → Rules E X → List ℕ → Type 0
TellsLast R octets = (frames : List Frame) → Run R octets frames [] Going → EndTelling R frames

-- a frame at which something more was told
pub frame_tells : {E X : Type 0} (R : Rules E X) (octets : List ℕ) (fs gs : List Frame) (told : List E) (t : E) (f : Frame) → IsSized f
    → Run R octets fs [] Going → events R fs ≡ told
    → Run R (octets ++ frame_octets f) gs [] Going → events R gs ≡ told ++ t ∷ [] → TellsLast R (octets ++ frame_octets f)
frame_tells {E = E} R octets fs gs told t f sized r told_is s then_is frames run =
    let parts : frames ≡ fs ++ f ∷ [] =
    frames_behind R octets fs frames (f ∷ []) r (subst (λ (o : List ℕ). Run R (octets ++ o) frames [] Going) (sym (one_octets f)) run) (sized, tt) in
    let same : gs ≡ frames = (unique R (octets ++ frame_octets f) gs frames [] [] Going Going s run).frames in
    let all : told ++ t ∷ [] ≡ told ++ R.tells fs f =
    sym then_is ∙ (ap (events R) (same ∙ parts) ∙ (events-push R fs f ∙ ap (λ (ts : List E). ts ++ R.tells fs f) told_is)) in
    record { before = fs; last = f; parts = parts; some = omega (arith, ap length all, length-append told (t ∷ []), length-append told (R.tells fs f)) }

-- ---- chunks

-- the last chunk of a body is its F
pub record LastIsF (cs : List Chunk) : Type 0 where
  pub front : List Chunk
  pub last : Chunk
  pub parts : cs ≡ front ++ last ∷ []
  pub flag : last.flag ≡ F

pub numbered_last : (lane : Lane) (s id : ℕ) (p : List ℕ) (ps : List (List ℕ)) → LastIsF (numbered lane s id (p ∷ ps))
numbered_last lane s id p [] = record { front = []; last = chunk_of lane F s id p; parts = refl; flag = refl }
numbered_last lane s id p (q ∷ qs) =
    let l = numbered_last lane (next_number s) id q qs in
    record { front = chunk_of lane C s id p ∷ l.front; last = l.last; parts = ap (λ (cs : List Chunk). chunk_of lane C s id p ∷ cs) l.parts; flag = l.flag }

pub given_some : {E : Type 0} (tell : Item → E) (f : Flag) (cs : List Chunk) (c : Chunk) → f ≡ F → 0 < length (map tell (given_by f cs c))
given_some tell F cs c is = omega arith
given_some tell C cs c is = absurd cc
given_some tell A cs c is = absurd cc

-- chunks of which the last tells something
pub chunks_tell : {E X : Type 0} (R : Rules E X)
    → ((before : List Frame) (f : Frame) (c : Chunk) → content f ≡ Sends c → c.flag ≡ F → 0 < length (R.tells before f))
    → (octets : List ℕ) (fs : List Frame) → Run R octets fs [] Going → (cs : List Chunk) (l : LastIsF cs) → IsNumbered l.last
    → AllByRecursion IsSized (map frame_of cs) → TellsLast R (octets ++ chunks_octets cs)
chunks_tell R whole octets fs r cs l small sized frames run = record {
  before = fs ++ map frame_of l.front;
  last = frame_of l.last;
  parts =
      frames_behind R octets fs frames (map frame_of cs) r run sized
      ∙ (ap (λ (us : List Chunk). fs ++ map frame_of us) l.parts
      ∙ (ap (λ (hs : List Frame). fs ++ hs) (map_push frame_of l.front (l.last ∷ [])) ∙ sym (append_assoc fs (map frame_of l.front) (frame_of l.last ∷ []))));
  some = whole (fs ++ map frame_of l.front) (frame_of l.last) l.last (chunk_carried l.last small) l.flag;
}

-- ---- all that was waited for

-- octets are whole frames, of which the last tells one thing, and those before it this
pub record ComesLast {E X : Type 0} (R : Rules E X) (octets : List ℕ) (before : List E) (last : E) : Type 0 where
  pub frames : List Frame
  pub frame : Frame
  pub run : Run R octets (frames ++ frame ∷ []) [] Going
  pub told_is : events R frames ≡ before
  pub tells : R.tells frames frame ≡ last ∷ []

module _ {E X : Type 0} (R : Rules E X) (all : List ℕ) (gs : List Frame) (told : List E) (q : Run R all gs [] Going) (told_is : events R gs ≡ told)
    (ends : EndTelling R gs)
    (took : List ℕ) (before : List E) (last : E) (t : ComesLast R took before last)
    (missing : (later : List E) → before ≡ told ++ later → ⊥) (enough : (l : E) (later : List E) → told ≡ (before ++ last ∷ []) ++ (l ∷ later) → ⊥) where
  abbrev taken : List Frame
  taken = t.frames ++ t.frame ∷ []

  taken_told : events R taken ≡ before ++ last ∷ []
  taken_told = told_behind R t.frames t.frame before last t.told_is t.tells

  same_octets : (octets more : List ℕ) (fs : List Frame) → Run R octets fs [] Going → Run R (octets ++ more) (fs ++ []) [] Going → octets ≡ octets ++ more
  same_octets octets more fs r s =
      let whole = ap length r.whole in
      let other = ap length s.whole in
      let same = ap (λ (hs : List Frame). length (frames_octets hs)) (append-nil fs) in
      sym (append-nil octets)
      ∙ ap (λ (o : List ℕ). octets ++ o)
      (sym (nil_from_length more
      (omega (arith, whole, other, same, length-append octets more, length-append (frames_octets fs) [], length-append (frames_octets (fs ++ [])) []))))

  some_list : (xs ys : List E) → 0 < length ys → (l : E) × (later : List E) × (xs ++ ys ≡ l ∷ later)
  some_list [] [] some = absurd (omega (arith, some))
  some_list [] (y ∷ ys) some = (y, ys, refl)
  some_list (x ∷ xs) ys some = (x, xs ++ ys, refl)

  -- it took all of it where it took a front of it
  took_front : (more : List ℕ) → all ≡ took ++ more → took ≡ all
  took_front more is = by later.0 later.1
    where
      run_on : Run R (took ++ more) gs [] Going
      run_on = subst (λ (o : List ℕ). Run R o gs [] Going) is q

      later : (hs : List Frame) × (gs ≡ taken ++ hs)
      later = begins_run R took more taken gs [] Going t.run run_on

      by : (hs : List Frame) → gs ≡ taken ++ hs → took ≡ all
      by [] e = same_octets took more taken t.run (subst (λ (fs : List Frame). Run R (took ++ more) fs [] Going) e run_on) ∙ sym is
      by (h ∷ hs) e =
          let middle = split_last ends.before taken hs ends.last h (sym ends.parts ∙ e) in
          let extra : List E = each_from R.tells taken middle.0 in
          let some = some_list extra (R.tells ends.before ends.last) ends.some in
          absurd (enough some.0 some.1
          (sym told_is
          ∙ (ap (events R) ends.parts
          ∙ (events-push R ends.before ends.last
          ∙ (ap (λ (fs : List Frame). events R fs ++ R.tells ends.before ends.last) middle.1
          ∙ (ap (λ (ts : List E). ts ++ R.tells ends.before ends.last) (events_on R taken middle.0)
          ∙ (append_assoc (events R taken) extra (R.tells ends.before ends.last)
          ∙ (ap (λ (ts : List E). ts ++ (extra ++ R.tells ends.before ends.last)) taken_told
          ∙ ap (λ (ts : List E). (before ++ last ∷ []) ++ ts) some.2))))))))

  -- and no more where all of it is a front of what it took
  took_behind : (more : List ℕ) → took ≡ all ++ more → took ≡ all
  took_behind more is = by later.0 later.1
    where
      run_on : Run R (all ++ more) taken [] Going
      run_on = subst (λ (o : List ℕ). Run R o taken [] Going) is t.run

      later : (hs : List Frame) × (taken ≡ gs ++ hs)
      later = begins_run R all more gs taken [] Going q run_on

      by : (hs : List Frame) → taken ≡ gs ++ hs → took ≡ all
      by [] e = is ∙ sym (same_octets all more gs q (subst (λ (fs : List Frame). Run R (all ++ more) fs [] Going) e run_on))
      by (h ∷ hs) e =
          let middle = split_last t.frames gs hs t.frame h e in
          absurd (missing (each_from R.tells gs middle.0) (sym t.told_is
          ∙ (ap (events R) middle.1 ∙ (events_on R gs middle.0 ∙ ap (λ (ts : List E). ts ++ each_from R.tells gs middle.0) told_is))))

  -- where both begin the same octets it took just that
  pub took_just : (((more : List ℕ) × (all ≡ took ++ more)) ⊎ ((more : List ℕ) × (took ≡ all ++ more))) → took ≡ all
  took_just (inl p) = took_front p.0 p.1
  took_just (inr p) = took_behind p.0 p.1
