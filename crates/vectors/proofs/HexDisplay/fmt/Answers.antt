use Rattle.std.proofs.Common.{rules, take, ◌≡◌, [], ◌∷◌, ◌++◌, List, get_or, ℕ, ◌+◌, ◌-◌, ◌^◌, length, false, ◌<◌, ◌∙◌, sym, ap}
use Rattle.std.specs.List.{flat_map}
use Rattle.std.specs.Fmt.{padded_integral, format_spec, digits}
use Rattle.std.proofs.Output.{has_written_append, has_written_of_eq}
use Rattle.std.proofs.lemmas.List.{flat_map_more, take_more}
use Rattle.std.proofs.lemmas.Fmt.{hex_byte}
use Rattle.vectors.specs.Hex.{spaced_hex}
use Rattle.vectors.proofs.HexDisplay.fmt.Goals as goal

-- what `{b:02x}` writes after a space
abbrev padded_hex : ℕ → List ℕ
padded_hex b = (32 ∷ []) ++ padded_integral (format_spec 32 0 4 2 (2 ^ 64 - 1)) false [] (digits 16 false b)

hex_more : (xs : List ℕ) (i : ℕ) → i < length xs → get_or xs i 0 < 2 ^ 8
    → flat_map spaced_hex (take i xs) ++ padded_hex (get_or xs i 0) ≡ flat_map spaced_hex (take (i + 1) xs)
hex_more xs i h small =
    let b = get_or xs i 0 in
    ap (λ l. flat_map spaced_hex (take i xs) ++ (32 ∷ l)) (hex_byte false b small) ∙ flat_map_more spaced_hex [] (take i xs) b
    ∙ ap (flat_map spaced_hex) (sym (take_more xs i 0 h))

pub loop-b-preserved : goal.loop-b-preserved
loop-b-preserved g c =
    let i = c.loop-b.b-index in
    let xs = c.args.self.now.0.now in
    λ p. has_written_of_eq _ _ _ _ _ (hex_more xs i c.loop-b-test.true (search rules))
    (has_written_append _ _ (flat_map spaced_hex (take i xs)) _ (padded_hex (get_or xs i 0)) _ (c.loop-b.invariant p) (search rules))
