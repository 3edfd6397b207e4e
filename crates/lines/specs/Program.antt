-- 01, The program and the host: "The program reads request-side bytes from standard input, at most 4,294,967,295, puts out one line per
-- item and a last line with the bytes read." For any kind of frame; the program's is Request.
use Rattle.std.specs.Prelude.{ℕ, List, [], ◌∷◌, ◌++◌, map, length, get_or, take}
use Rattle.refusal.specs.Refusals.{served, refused}
use Rattle.shdlc.specs.declared.Kind.{Kind}
use Rattle.shdlc.specs.Stream.{byte, Item, items}
use Rattle.lines.specs.Text.{frame_line, refused_line, end_line}

-- the line of an item: of a frame its address, command and L; of a refusal its number and, of 3 and 4, the place
unfoldable pub line_of : Item → List ℕ
line_of (served body) = frame_line (get_or body 0 0) (get_or body 1 0) (get_or body 2 0)
line_of (refused n) = refused_line n

unfoldable pub lines_of : List Item → List ℕ
lines_of [] = []
lines_of (item ∷ items) = line_of item ++ lines_of items

-- all that is put out for the bytes read
unfoldable pub text_for : Kind → List ℕ → List ℕ
text_for kind bytes = lines_of (items kind (map byte bytes)) ++ end_line (length bytes)

abbrev pub limit : ℕ
limit = 4294967295

-- all that the program puts out for what stands in its standard input
unfoldable pub program_text : Kind → List ℕ → List ℕ
program_text kind input = text_for kind (take limit input)

-- "Input 7E 00 45 00 BA 7E 11 7E gives exactly three lines: `frame 0 69 0` (address, command, L), `refused 4`, `end 8`." With 02 (vii) the
-- second is `refused 4 at 0`.
abbrev pub example_input : List ℕ
example_input = 0x7E ∷ 0x00 ∷ 0x45 ∷ 0x00 ∷ 0xBA ∷ 0x7E ∷ 0x11 ∷ 0x7E ∷ []

abbrev pub example_text : List ℕ
example_text =
    102 ∷ 114 ∷ 97 ∷ 109 ∷ 101 ∷ 32 ∷ 48 ∷ 32 ∷ 54 ∷ 57 ∷ 32 ∷ 48 ∷ 10
    ∷ 114 ∷ 101 ∷ 102 ∷ 117 ∷ 115 ∷ 101 ∷ 100 ∷ 32 ∷ 52 ∷ 32 ∷ 97 ∷ 116 ∷ 32 ∷ 48 ∷ 10
    ∷ 101 ∷ 110 ∷ 100 ∷ 32 ∷ 56 ∷ 10 ∷ []

-- 02 (vii), places counted in the bytes as received: input 7E 7D 5D 11 7E 00 7D 7E gives `refused 4 at 2`, `refused 3 at 1`, `end 8`
abbrev pub places_input : List ℕ
places_input = 0x7E ∷ 0x7D ∷ 0x5D ∷ 0x11 ∷ 0x7E ∷ 0x00 ∷ 0x7D ∷ 0x7E ∷ []

abbrev pub places_text : List ℕ
places_text =
    114 ∷ 101 ∷ 102 ∷ 117 ∷ 115 ∷ 101 ∷ 100 ∷ 32 ∷ 52 ∷ 32 ∷ 97 ∷ 116 ∷ 32 ∷ 50 ∷ 10
    ∷ 114 ∷ 101 ∷ 102 ∷ 117 ∷ 115 ∷ 101 ∷ 100 ∷ 32 ∷ 51 ∷ 32 ∷ 97 ∷ 116 ∷ 32 ∷ 49 ∷ 10
    ∷ 101 ∷ 110 ∷ 100 ∷ 32 ∷ 56 ∷ 10 ∷ []
