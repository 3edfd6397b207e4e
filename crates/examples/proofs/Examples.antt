-- The twelve examples of document 01 hold: each row of the table, by computing it. Assumes nothing.
use mathlib.Core.Path.{refl}
use lib.Ieee.{of_int, of_bits, to_bits}
use Rattle.refusal.specs.Room.{overlay, emit}
use Rattle.shdlc.specs.Checksum.{sum, checksum_of}
use Rattle.shdlc.specs.Stuffing.{stuff_byte, stuff, prepend, unstuff_from, unstuff_escaped}
use Rattle.shdlc.specs.Body.{check_body}
use Rattle.shdlc.specs.Frame.{frame_of}
use Rattle.shdlc.specs.Stream.{judge_body, judge, next_byte, next, gain, items_from, items}
use Rattle.payload.specs.Field.{big, big_endian}
use Rattle.sfc6.specs.Commands.{row}
use Rattle.sfc6.specs.Requests.{check_request, data_of, frame_to_write, write_request}
use Rattle.sfc6.specs.Requests.{body_of as requestBody}
use Rattle.sfc6.specs.Reading.{starts_with, named, fitting, first, carried, typed, read_request}
use Rattle.replies.specs.Reader.{data_in, foreign, answer_to, read_reply}
use Rattle.replies.specs.Writer.{body_of, frame_for, write_reply}
use Rattle.replies.specs.Writer.{frame_to_write as replyToWrite}
use Rattle.i2c.specs.Crc.{bit_step, bit_steps, byte_step, crc_of}
use Rattle.i2c.specs.Word.{words_of, check_word, first_wrong, no_words, read_checked, read_words}
use Rattle.reading.specs.Reading.{good_scale, rounded, in_thousandths}
use Rattle.examples.specs.Table.{Every, rows}

infixr 20 ◌and◌
◌and◌ : {A B : Type 0} → A → B → A × B
a and b = (a, b)

pub examples : Every rows
unfolding overlay emit
    sum checksum_of stuff_byte stuff prepend unstuff_from unstuff_escaped check_body frame_of
    judge_body judge next_byte next gain items_from items
    big big_endian row data_of requestBody frame_to_write write_request
    check_request starts_with named fitting first carried typed read_request
    data_in foreign answer_to read_reply body_of frame_for replyToWrite write_reply
    bit_step bit_steps byte_step crc_of words_of check_word first_wrong no_words read_checked read_words
    good_scale rounded in_thousandths of_int of_bits to_bits
examples =
    refl
    and (refl, refl, refl)
    and (refl, refl)
    and (refl, refl)
    and (refl, refl)
    and (refl, refl)
    and (refl, refl)
    and (refl, refl)
    and refl
    and refl
    and refl
    and refl
    and refl
    and refl
    and refl
    and tt
