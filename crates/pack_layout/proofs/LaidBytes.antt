-- The layout of a well-formed description is a list of bytes.
use mathlib.Core.Path.{◌≡◌, sym, subst}
use mathlib.Core.List.{List, [], ◌∷◌, ◌++◌}
use mathlib.Core.Logic.{⊎_elim}
use Prim.Native.Nat.{ℕ, ◌+◌, ◌<◌}
use native.Mathlib.Omega.{arith}
use lib.Dec.{ltb, ltb→lt}
use lib.ListN.{length, length-append, get_or-eq_default}
use Rattle.runs.specs.Digits.{digits, Bytes}
use Rattle.runs.proofs.Cases.{lt_or_ge}
use Rattle.runs.proofs.Digits.{digits_below, length_digits}
use Rattle.runs.proofs.Below.{below_append}
use Rattle.runs.proofs.Table.{at}
use Rattle.numbers.specs.Tags.{tag_bytes}
use Rattle.numbers.specs.Lengths.{form_bytes}
use Rattle.numbers.proofs.Tags.{tag_bytes_below}
use Rattle.numbers.proofs.Lengths.{form_below}
use Rattle.crc.specs.Crc.{crc_of}
use Rattle.pack.specs.Fixed.{key}
use Rattle.pack_layout.specs.Layout.{Element, Chunk, plain, group, Entry, ConfigLaid, no_config, config, CrcLaid, no_crc, crc, Description, element, elements_bytes, group_bytes, chunks_bytes, entries_bytes, config_bytes, content_bytes, start_bytes, before_crc, laid, layout}
use Rattle.pack_layout.specs.Well.{FormFits, WellElements, WellChunks, WellEntries, WellConfig, WellCrc, crc_size, WellFormed}
use Rattle.pack_layout.proofs.Items.{four_fits}

key_below : Bytes key
unfolding key
key_below k =
    ⊎_elim (λ h. ltb→lt _ _ (at (λ i x. ltb x 256) key tt k h)) (λ h. subst (λ (n : ℕ). n < 256) (sym (get_or-eq_default key 0 h)) (omega arith))
    (lt_or_ge k 16)

run_below : (k n : ℕ) → Bytes (digits 256 k n)
run_below k n = digits_below 256 k n (omega arith)

element_below : (t form : ℕ) (value : List ℕ) → FormFits form (length value) → Bytes value → Bytes (element t form value)
element_below t form value fits b =
    let fb = form_bytes form (length value) in
    below_append 256 (tag_bytes t) (fb ++ value) (tag_bytes_below t) (below_append 256 fb value (form_below form (length value) fits.0 fits.1) b)

elements_below : (xs : List Element) → WellElements xs → Bytes (elements_bytes xs)
unfolding elements_bytes
elements_below [] w = λ k. omega arith
elements_below (x ∷ xs) w =
    below_append 256 (element x.tag x.form x.value) (elements_bytes xs) (element_below x.tag x.form x.value w.0.fits w.0.bytes)
    (elements_below xs w.1)

group_below : (o d : ℕ) (xs : List Element) → WellElements xs → Bytes (group_bytes o d xs)
group_below o d xs w =
    below_append 256 (digits 256 2 o) (digits 256 2 d ++ elements_bytes xs) (run_below 2 o)
    (below_append 256 (digits 256 2 d) (elements_bytes xs) (run_below 2 d) (elements_below xs w))

chunks_below : (cs : List Chunk) → WellChunks cs → Bytes (chunks_bytes cs)
unfolding chunks_bytes
chunks_below [] w = λ k. omega arith
chunks_below (plain x ∷ cs) w =
    below_append 256 (element x.tag x.form x.value) (chunks_bytes cs) (element_below x.tag x.form x.value w.0.fits w.0.bytes)
    (chunks_below cs w.1)
chunks_below (group form o d xs ∷ cs) w =
    let value = group_bytes o d xs in
    below_append 256 (element 2 form value) (chunks_bytes cs) (element_below 2 form value w.0.fits (group_below o d xs w.0.all)) (chunks_below cs w.1)

entries_below : (ms : List Entry) → WellEntries ms → Bytes (entries_bytes ms)
unfolding entries_bytes WellEntries
entries_below [] w = λ k. omega arith
entries_below (m ∷ ms) w =
    below_append 256 (tag_bytes m.tag) (m.stands ++ entries_bytes ms) (tag_bytes_below m.tag)
    (below_append 256 m.stands (entries_bytes ms) w.0.bytes (entries_below ms w.3))

config_below : (first : ConfigLaid) → WellConfig first → Bytes (config_bytes first)
unfolding config_bytes WellConfig
config_below no_config w = λ k. omega arith
config_below (config form o ms) w =
    let value = digits 256 2 o ++ entries_bytes ms in
    let size : length value ≡ 2 + length (entries_bytes ms) = omega (arith, length-append (digits 256 2 o) (entries_bytes ms), length_digits 256 2 o) in
    element_below 1 form value (w.0.0, rw size w.0.1) (below_append 256 (digits 256 2 o) (entries_bytes ms) (run_below 2 o) (entries_below ms w.3))

content_below : (d : Description) → WellFormed d → Bytes (content_bytes d)
content_below d w = below_append 256 (config_bytes d.first) (chunks_bytes d.chunks) (config_below d.first w.opening) (chunks_below d.chunks w.items)

start_below : (d : Description) (n : ℕ) → FormFits d.form n → Bytes (start_bytes d n)
start_below d n fits = below_append 256 key (form_bytes d.form n) key_below (form_below d.form n fits.0 fits.1)

laid_below : (d : Description) → WellFormed d → (last : CrcLaid) → FormFits d.form (length (content_bytes d) + crc_size last) → WellCrc last → Bytes (laid d last)
unfolding laid before_crc WellCrc
laid_below d w no_crc fits closing =
    let n = length (content_bytes d) in
    below_append 256 (start_bytes d n) (content_bytes d) (start_below d n (fits.0, omega (arith, fits.1))) (content_below d w)
laid_below d w (crc form) fits closing =
    let t = tag_bytes 3 in
    let f = form_bytes form 4 in
    let n = length (content_bytes d) + (length (t ++ f) + 4) in
    below_append 256 (before_crc d form) (digits 256 4 (crc_of (before_crc d form)))
    (below_append 256 (start_bytes d n) (content_bytes d ++ (t ++ f)) (start_below d n (fits.0, omega (arith, fits.1, length-append t f)))
    (below_append 256 (content_bytes d) (t ++ f) (content_below d w) (below_append 256 t f (tag_bytes_below 3) (form_below form 4 closing (four_fits form)))))
    (run_below 4 (crc_of (before_crc d form)))

pub layout_below : (d : Description) → WellFormed d → Bytes (layout d)
layout_below d w = laid_below d w d.last w.fits w.closing
