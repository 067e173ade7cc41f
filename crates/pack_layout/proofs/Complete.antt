-- The bytes of every well-formed description are accepted, and mean what the description says.
use mathlib.Core.Path.{◌≡◌, refl, sym, ap, ◌∙◌}
use mathlib.Core.List.{List, [], ◌++◌, append_assoc, append-nil}
use Prim.Native.Nat.{ℕ, ◌+◌, ◌≤◌}
use native.Mathlib.Omega.{arith}
use lib.ListN.{length, length-append}
use Rattle.runs.specs.Digits.{digits}
use Rattle.runs.proofs.Digits.{length_digits}
use Rattle.numbers.specs.Tags.{tag_bytes}
use Rattle.numbers.specs.Lengths.{form_bytes}
use Rattle.crc.specs.Crc.{crc_of}
use Rattle.pack.specs.Fixed.{key, pack_cap}
use Rattle.pack_layout.specs.Layout.{CrcLaid, no_crc, crc, Description, element, chunks_bytes, config_bytes, content_bytes, before_crc, laid, layout, crc_mark, says}
use Rattle.pack_layout.specs.Well.{FormFits, WellCrc, crc_size, WellFormed}
use Rattle.pack_layout.specs.Agrees.{Complete}
use Rattle.pack_layout.proofs.Parts.{grouped, counted}
use Rattle.pack_layout.proofs.Opens.{reading_run}
use Rattle.pack_layout.proofs.Items.{closes_bare, closes_crc}
use Rattle.pack_layout.proofs.Packs.{PackLaid, pack_laid}

-- with what closes the pack in hand
closed_by : (d : Description) → WellFormed d → (last : CrcLaid) → FormFits d.form (length (content_bytes d) + crc_size last) → WellCrc last
    → length (laid d last) ≤ pack_cap → PackLaid (laid d last) d.first d.chunks (crc_mark last)
unfolding laid before_crc WellCrc
closed_by d w no_crc fits closing small =
    let cs = d.chunks in
    let content = content_bytes d in
    let bare : content ≡ config_bytes d.first ++ (chunks_bytes cs ++ []) = ap (λ (l : List ℕ). config_bytes d.first ++ l) (sym (append-nil (chunks_bytes cs))) in
    let n = length content in
    pack_laid (laid d no_crc) [] _ (closes_bare (laid d no_crc)) cs w.count w.items d.form n d.first
    (append_assoc key (form_bytes d.form n) content ∙ ap (λ (l : List ℕ). key ++ (form_bytes d.form n ++ l)) bare)
    (ap length bare) (fits.0, omega (arith, fits.1)) small w.opening
closed_by d w (crc form) fits closing small =
    let cs = d.chunks in
    let before = before_crc d form in
    let c = digits 256 4 (crc_of before) in
    let four : length c ≡ 4 = length_digits 256 4 (crc_of before) in
    let t = tag_bytes 3 in
    let f = form_bytes form 4 in
    let n = length (content_bytes d) + (length (t ++ f) + 4) in
    let x = config_bytes d.first in
    let y = chunks_bytes cs in
    let same : form_bytes form 4 ≡ form_bytes form (length c) = ap (form_bytes form) (sym four) in
    pack_laid (before ++ c) (element 3 form c) _ (λ grounds. closes_crc (before ++ c) before grounds form refl closing) cs w.count w.items d.form n d.first
    (grouped key (form_bytes d.form n) x y t f c ∙ ap (λ (g : List ℕ). key ++ (form_bytes d.form n ++ (x ++ (y ++ (t ++ (g ++ c)))))) same)
    (counted x y t f c 4 four ∙ ap (λ (g : List ℕ). length (x ++ (y ++ (t ++ (g ++ c))))) same)
    (fits.0, omega (arith, fits.1, length-append t f)) small w.opening

pub reading_complete : (d : Description) → WellFormed d → Complete d
unfolding says
reading_complete d w =
    let l = closed_by d w d.last w.fits w.closing w.small in
    record { read = l.read; reads = reading_run (layout d) l.read l.reads; means = l.means; marks = l.marks }
