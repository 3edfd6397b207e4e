-- 01's example of the program, and one with places, by computing them. Assumes nothing.
use mathlib.Core.Path.{◌≡◌, refl}
use Rattle.shdlc.specs.declared.Kind.TheVariants.{Request}
use Rattle.shdlc.specs.Checksum.{sum, checksum_of}
use Rattle.shdlc.specs.Stuffing.{prepend, unstuff_from, unstuff_escaped}
use Rattle.shdlc.specs.Body.{check_body}
use Rattle.shdlc.specs.Stream.{judge_body, judge, next_byte, next, gain, items_from, items}
use Rattle.lines.specs.Text.{decimal_within, decimal, field, frame_line, placed_field, refused_line, end_line}
use Rattle.lines.specs.Program.{line_of, lines_of, text_for, program_text, example_input, example_text, places_input, places_text}

pub example : (program_text Request example_input ≡ example_text) × (program_text Request places_input ≡ places_text)
unfolding sum checksum_of prepend unstuff_from unstuff_escaped check_body judge_body judge next_byte next gain items_from items
    decimal_within decimal field frame_line placed_field refused_line end_line line_of lines_of text_for program_text
example = (refl, refl)
