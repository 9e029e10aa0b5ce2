-- Octets have lines, and one list of them.
use Rattle.std.proofs.Common.{◌≡◌, ℕ, false, List, ◌++◌, sym, ap, ◌∙◌}
use Rattle.ua_frame.specs.declared.frame.Frame.{Frame}
use Rattle.ua_frame.specs.Laws.{IsSame}
use Rattle.ua_frame.specs.Run.{End, events}
use Rattle.ua_frame.proofs.Unique.{unique}
use Rattle.ua_pair.specs.declared.options.DissectOptions.{DissectOptions}
use Rattle.ua_pair.specs.Dissected.{rules, last_line, AreLines}
use Rattle.ua_pair.specs.Told.{place_behind}
use Rattle.ua_pair.proofs.Texts.{texts_exact}

-- the lines of a reading
abbrev lines_of : DissectOptions → List Frame → List ℕ → End ℕ → List ℕ
lines_of options fs rest end = events (rules options) fs ++ last_line options.names (place_behind fs) rest end

same_lines : (options : DissectOptions) (fs gs : List Frame) (x y : List ℕ) (e d : End ℕ) → IsSame fs gs x y e d
    → lines_of options fs x e ≡ lines_of options gs y d
same_lines options fs gs x y e d s =
    ap (λ (t : List Frame). lines_of options t x e) s.frames ∙ ap (λ (t : List ℕ). lines_of options gs t e) s.rests ∙ ap (lines_of options gs y) s.ends

lines_exact : (options : DissectOptions) (octets lines : List ℕ) → options.plain ≡ false → (h : AreLines options octets lines)
    → lines ≡ lines_of options h.frames h.rest h.end
lines_exact options octets lines none h = h.lines_are ∙ ap (λ (t : List ℕ). t ++ last_line options.names (place_behind h.frames) h.rest h.end)
    (texts_exact options none h.frames h.told h.told_are)

-- octets have one list of lines
pub one_reading : (options : DissectOptions) (octets lines others : List ℕ) → options.plain ≡ false → AreLines options octets lines
    → AreLines options octets others → lines ≡ others
one_reading options octets lines others none h k =
    lines_exact options octets lines none h
    ∙ same_lines options h.frames k.frames h.rest k.rest h.end k.end (unique (rules options) octets h.frames k.frames h.rest k.rest h.end k.end h.run k.run)
    ∙ sym (lines_exact options octets others none k)
