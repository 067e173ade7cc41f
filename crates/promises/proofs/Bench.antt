-- 01's examples marked P, those of turnarounds and those of languages, computed from the definitions.
use mathlib.Core.Path.{refl}
use Rattle.runs.specs.Digits.{digits, number_from}
use Rattle.runs.specs.Same.{same}
use Rattle.refusals.specs.Outcomes.{and_then}
use Rattle.numbers.specs.Tags.{tag_from, tag_at}
use Rattle.numbers.specs.Lengths.{long_at, length_at}
use Rattle.numbers.specs.Big.{big_at}
use Rattle.bits.specs.Bits.{bits}
use Rattle.pack.specs.Fixed.{key, utility_labels}
use Rattle.pack.specs.Payloads.{value_found, tag_found, payload_at, inner_at, name_from, inners_from}
use Rattle.pack.specs.Items.{judged, item_at, some_inside, items_from}
use Rattle.pack.specs.Config.{config_maps}
use Rattle.pack.specs.Reading.{value_start, opening_at, read_from, reading}
use Rattle.pack.specs.Meaning.{meant}
use Rattle.pmd.specs.Reading as pmd
use Rattle.pmd.specs.Writing as writing
use Rattle.pmd.specs.Records as records
use Rattle.pmd.specs.Gain.{level_of}
use Rattle.promises.specs.Bench.{All, table, turnarounds, Languages}

-- Every line of 01 that is marked P holds.
pub bench : All table
unfolding All digits number_from same and_then tag_from tag_at long_at length_at big_at bits key utility_labels value_found tag_found payload_at inner_at name_from inners_from judged item_at some_inside items_from value_start config_maps opening_at read_from reading meant pmd.padding pmd.read_from pmd.read_as records.width records.takes records.after records.closed records.opened level_of
bench =
    (refl, (refl, (refl, (refl, (refl, (refl, (refl, (refl, (refl, (refl, (refl, (refl, (refl, (refl, (refl, (refl, (refl, tt)))))))))))))))))

-- And every example of a turnaround.
pub bench_turnarounds : All turnarounds
unfolding All digits number_from and_then bits pmd.padding pmd.read_from pmd.read_as records.width records.takes records.after records.closed records.opened
bench_turnarounds = (refl, (refl, (refl, (refl, (refl, (refl, (refl, (refl, tt))))))))

-- And every example of a language.
pub bench_languages : Languages
unfolding digits number_from and_then bits pmd.padding pmd.read_from pmd.read_as writing.write_from writing.packed writing.write_as records.width records.takes records.after records.closed records.opened
bench_languages = ((refl, refl), ((refl, refl), ((refl, refl), ((refl, refl), (refl, refl)))))
