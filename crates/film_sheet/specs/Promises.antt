-- What may be counted on, of an order's film sheet; proved in `proofs/FilmLaws.antt`, `proofs/FilmEdges.antt` and `proofs/FirstBytes.antt`.
use Rattle.std.specs.Prelude.{◌≡◌, List, ℕ, ◌<◌, ◌≤◌, T, ℤ, pos, nat_abs, ◌-ℤ◌, length, take}
use Rattle.std.specs.Int.Signed.{le_z}
use Rattle.prelude.specs.Answer.{accepted}
use Rattle.prelude.specs.Each.{Each, Pairwise}
use Rattle.geometry.specs.declared.Rect.{Rect}
use Rattle.numerics.specs.Value.{value}
use Rattle.settings.specs.declared.Settings.{Settings}
use Rattle.reader.specs.Order.{read_order_of}
use Rattle.preset.specs.Preset.{settings_layout_of}
use Rattle.tenths.specs.Tenths.{tenths_of}
use Rattle.lines.specs.Line.{Line, Numbers, number_text}
use Rattle.lines.specs.Edges.{FilmEdge, exact_edge, printed_edge}
use Rattle.sheet.specs.Sheet.{lines_of, line_rects}
use Rattle.film_sheet.specs.Film.{film_text_of}

-- The text has 788 bytes at most.
abbrev pub FilmFits : Type 0
FilmFits = (order : List ℕ) → length (film_text_of order) ≤ 788

abbrev pub Byte : ℕ → Type 0
Byte b = b < 256

-- No byte past the first 69,658 changes it: so a program need not read more than 70,000.
abbrev pub FirstBytes : Type 0
FirstBytes = (order : List ℕ) → Each Byte order → (n : ℕ) → 69658 ≤ n → film_text_of (take n order) ≡ film_text_of order

-- ---- W-202

-- C holds of the settings of every accepted order
abbrev pub OfAccepted : (Settings → Type 0) → Type 0
OfAccepted C = (order : List ℕ) (s : Settings) → read_order_of order ≡ accepted s → C s

-- C holds of each line of their sheet and the rectangle that it is of
abbrev pub OfLines : (Line → Rect → Type 0) → Settings → Type 0
OfLines C s = let l = settings_layout_of s in Pairwise C (lines_of l) (line_rects l)

-- Each printed edge is the exact one, rounded: x plus w is the right edge, y plus h the lower one.
abbrev pub RoundedEdge : FilmEdge → Line → Rect → Type 0
RoundedEdge e line r = printed_edge e line ≡ tenths_of (exact_edge e r)

abbrev pub EdgesRounded : Type 0
EdgesRounded = (e : FilmEdge) → OfAccepted (OfLines (RoundedEdge e))

-- So of any two lines, edges that are equal are printed equal.
abbrev pub MeetsEdge : FilmEdge → FilmEdge → Line → Rect → Line → Rect → Type 0
MeetsEdge e f line r other q = exact_edge e r ≡ exact_edge f q → printed_edge e line ≡ printed_edge f other

abbrev pub EdgesMeet : Type 0
EdgesMeet = (e f : FilmEdge) → OfAccepted (λ s. OfLines (λ line r. OfLines (MeetsEdge e f line r) s) s)

-- A printed w or h differs from document 01's, which was rounded by itself, by one tenth at most,
abbrev pub NearSides : Line → Rect → Type 0
NearSides line r = (nat_abs (line.w -ℤ tenths_of (value r.w)) ≤ 1) × (nat_abs (line.h -ℤ tenths_of (value r.h)) ≤ 1)

abbrev pub SidesNear : Type 0
SidesNear = OfAccepted (OfLines NearSides)

-- and is at least zero if the exact one is.
abbrev pub AtLeastZero : ℤ → Type 0
AtLeastZero z = T (le_z (pos 0) z)

abbrev pub AtLeastZeroSides : Line → Rect → Type 0
AtLeastZeroSides line r = (AtLeastZero (value r.w) → AtLeastZero line.w) × (AtLeastZero (value r.h) → AtLeastZero line.h)

abbrev pub SidesAtLeastZero : Type 0
SidesAtLeastZero = OfAccepted (OfLines AtLeastZeroSides)

-- No number has more than seven characters.
abbrev pub SevenCharacters : ℤ → Type 0
SevenCharacters z = length (number_text z) ≤ 7

abbrev pub NumbersFit : Type 0
NumbersFit = OfAccepted (λ s. Each (Numbers SevenCharacters) (lines_of (settings_layout_of s)))
