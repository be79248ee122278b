-- The formats of a croak's text, by the program's own table.
use Rattle.std.specs.Prelude.{◌≡◌, ℕ, zero, suc, ◌-◌, ◌==◌, false, List, [], ◌∷◌, ◌++◌, map, length, Option, Some, None, option_map, if◌then◌else◌}
use Rattle.std.specs.Borrow.{Bor}
use Rattle.xs_base.specs.Scanning.{starts_with}
use Rattle.xs_perlapi.specs.declared.row.ApiType.{ApiType}
use Rattle.xs_perlapi.specs.declared.formats.Format.{Format}
use Rattle.xs_perlapi.specs.declared.formats.Piece.{Piece}
use Rattle.xs_perlapi.specs.declared.formats.Piece.TheVariants as piece
use Rattle.xs_perlapi.specs.declared.formats.PieceFront.{PieceFront}
use Rattle.xs_perlapi.specs.declared.formats.TheConstants.{FORMATS}

-- a format as it is spelt, with the type of its operand
pub record SpeltFormat : Type 0 where
  pub spelling : List ℕ
  pub operand : Option ApiType

abbrev pub spelt_format : List ℕ → Option ApiType → SpeltFormat
spelt_format spelling operand = record { spelling = spelling; operand = operand }

abbrev pub entry_view : Bor (List ℕ) × Option ApiType → SpeltFormat
entry_view f = spelt_format f.0.now f.1

-- all formats, in the order of the program's table
unfoldable pub formats : List SpeltFormat
formats = map (λ f. spelt_format f.0.now f.1) FORMATS

abbrev pub format_of : SpeltFormat → Format
format_of f = record { operand = f.operand; size = length f.spelling }

-- the first of these formats that a text begins with
abbrev pub first_format : List SpeltFormat → List ℕ → Option Format
first_format [] text = None
first_format (f ∷ all) text =
    if starts_with f.spelling text then Some (format_of f) else first_format all text

-- the format that a text begins with
unfoldable pub format_at : List ℕ → Option Format
format_at text = first_format formats text

-- ---- texts

-- what a format is in a text: the place of its operand, or the byte `%`
abbrev pub piece_of : Option ApiType → Piece
piece_of (Some t) = piece.Operand t
piece_of None = piece.Byte 37

abbrev pub front_or_byte : Option Format → ℕ → Option PieceFront
front_or_byte (Some f) b = Some (record { piece = piece_of f.operand; size = f.size })
front_or_byte None b =
    if b == 37 then None else Some (record { piece = piece.Byte b; size = 1 })

-- the part in front of a text, where its first byte is of one
abbrev pub piece_at : List ℕ → Option PieceFront
piece_at [] = None
piece_at (b ∷ bs) = front_or_byte (format_at (b ∷ bs)) b

abbrev pub with_piece : Option PieceFront → Option (List Piece) → Option (List Piece)
with_piece None more = None
with_piece (Some f) more = option_map (λ ps. f.piece ∷ ps) more

-- how many bytes of a part stand after its first
abbrev pub bytes_after : Option PieceFront → ℕ
bytes_after None = 0
bytes_after (Some f) = f.size - 1

-- the parts after so many bytes of a text
abbrev pub pieces_from : ℕ → List ℕ → Option (List Piece)
pieces_from skip [] = Some []
pieces_from (suc n) (b ∷ bs) = pieces_from n bs
pieces_from zero (b ∷ bs) =
    with_piece (piece_at (b ∷ bs)) (pieces_from (bytes_after (piece_at (b ∷ bs))) bs)

-- The parts of a text, where each `%` in it begins a format. By a law of this crate they are as
-- `ArePieces` says.
unfoldable pub pieces_of : List ℕ → Option (List Piece)
pieces_of text = pieces_from 0 text

-- A text is formats and bytes other than `%`.
pub data ArePieces : List ℕ → List Piece → Type 0 where
  nothing : ArePieces [] []
  byte : {b : ℕ} {text : List ℕ} {ps : List Piece} → (b == 37) ≡ false → ArePieces text ps
      → ArePieces (b ∷ text) (piece.Byte b ∷ ps)
  format : (f : Format) (spelling : List ℕ) {text : List ℕ} {ps : List Piece}
      → format_at (spelling ++ text) ≡ Some f → length spelling ≡ f.size → ArePieces text ps
      → ArePieces (spelling ++ text) (piece_of f.operand ∷ ps)
