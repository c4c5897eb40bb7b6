-- What a pair keeps over every list of attempts.
use Rattle.std.specs.Prelude.{◌≡◌, ℕ, ◌<◌, ◌≤◌, ◌⊎◌, ◌↔◌, List, [], length, Some, Ok, Err, slice_index, slice_index_or}
use Rattle.std.specs.List.{AllByRecursion}
use Rattle.kinds.specs.Kinds.{fold}
use Rattle.kinds.specs.declared.change.Change.{Change}
use Rattle.kinds.specs.declared.kind.Kind.{Kind}
use Rattle.kinds.specs.declared.side.Side.{Side}
use Rattle.kinds.specs.declared.side.Side.TheVariants.{Left, Right}
use Rattle.links.specs.Columns.{Columns, across}
use Rattle.frames.specs.Edits.{Edit, change}
use Rattle.frames.specs.Frames.{frame}
use Rattle.frames.specs.Laws.{Says}
use Rattle.documents.specs.declared.fault.Fault.{Fault}
use Rattle.documents.specs.Documents.{records_of, Item, form, Acts, Lengthens}
use Rattle.documents.specs.Across.{change_at, translated}
use Rattle.documents.specs.Attempts.{State, opened, document, kinds, attempt, answer, after}

-- real bytes, each below 256
abbrev pub Bytes : List ℕ → Type 0
Bytes bytes = AllByRecursion (λ b. b < 256) bytes

-- the rows of a side's records, in their order
abbrev pub rows : {R : Type 0} → Side → State R → List (List ℕ)
rows Left d = records_of d.lines
rows Right d = d.records

-- the value of a side's record k in column c
abbrev pub value : {R : Type 0} → Side → State R → ℕ → ℕ → ℕ
value s d k c = slice_index (slice_index_or (rows s d) k []) c

-- Two translations fold to a third: they are changes of one cell, whose fold it is; a change that keeps is told as keep.
pub record Folds (kind : ℕ → Kind) (first second both : Edit) : Type 0 where
  pub place : ℕ
  pub column : ℕ
  pub e : Change
  pub f : Change
  pub ef : Change
  pub first_is : first ≡ change_at place column e
  pub second_is : second ≡ change_at place column f
  pub folded : fold (kind column) e f ≡ Ok (Some ef)
  pub both_is : both ≡ change_at place column ef

-- both documents are the same in two pairs
pub record SameDocuments {R : Type 0} (d e : State R) : Type 0 where
  pub sheets : d.lines ≡ e.lines
  pub tables : d.records ≡ e.records

module _ {R : Type 0} (row : Columns R) where
  -- The documents agree.
  pub record Agreeing (d : State R) : Type 0 where
    -- sheet and table have as many records as there are row links
    pub as_many : (s : Side) → length (rows s d) ≡ length d.links
    -- each record has four numbers
    pub whole : (s : Side) (k : ℕ) → k < length d.links → length (slice_index_or (rows s d) k []) ≡ 4
    -- the k-th records agree in every column through the k-th link
    pub agree : (k c : ℕ) → k < length d.links → c < 4 → row.agrees c (slice_index_or d.links k d.blank) (value Left d k c) (value Right d k c)
    -- every value lies within the limit of its kind
    pub within : (s : Side) (k c : ℕ) → k < length d.links → c < 4 → value s d k c ≤ (kinds row s d c).limit

  -- the edit fits the side's document in d, and makes of it what e holds
  abbrev pub Acted : Side → Edit → State R → State R → Type 0
  Acted s op d e = Acts (form s) (kinds row s d) op (document s d) (document s e)

  -- the edit fits the side's document
  abbrev pub Fits : Side → Edit → State R → Type 0
  Fits s op d = (xs : List (Item s)) × Acts (form s) (kinds row s d) op (document s d) xs

  -- the pair in the state d answers the bytes with the translation t, and is then in the state e
  abbrev pub Accepts : State R → List ℕ → Edit → State R → Type 0
  Accepts d bytes t e = attempt row d bytes ≡ Ok (t, e)

  -- the pair in the state d refuses the bytes
  abbrev pub Refuses : State R → List ℕ → Type 0
  Refuses d bytes = (f : Fault) × (attempt row d bytes ≡ Err f)

  -- The bytes are a frame of one side; its edit acts on that side's document; the answer is its translation, and acts on the
  -- other document.
  pub record Acting (bytes : List ℕ) (t : Edit) (d e : State R) : Type 0 where
    pub side : Side
    pub edit : Edit
    pub says : frame bytes ≡ Ok (side, edit)
    pub own : Acted side edit d e
    pub translation : translated row side d.blank d.lines d.links edit ≡ Ok (t, e.links)
    pub other : Acted (across side) t d e

  -- the edit does not fit its own document, or would lengthen a full sheet
  abbrev pub Unfit : Side → Edit → State R → Type 0
  Unfit s op d = (Fits s op d → ⊥) ⊎ (Lengthens op × (length d.lines ≡ d.size))

  -- whatever attempts follow, two pairs have the same documents and give the same answers
  abbrev pub AlikeFromHere : State R → State R → Type 0
  AlikeFromHere d e = (rest : List (List ℕ)) →
      SameDocuments (after row d rest) (after row e rest) ×
      ((bytes : List ℕ) → answer (attempt row (after row d rest) bytes) ≡ answer (attempt row (after row e rest) bytes))

  -- A pair in the state e takes one frame from the side s in the place of two, which brought another pair to the state d
  -- with the translations t and u.
  pub record Replaced (s : Side) (t u : Edit) (d e : State R) (bytes : List ℕ) : Type 0 where
    pub translation : Edit
    pub then : State R
    pub accepted : Accepts e bytes translation then
    pub folds : Folds (kinds row (across s) e) t u translation
    pub alike : AlikeFromHere d then

  module _ (size : ℕ) (pattern : R) where
    -- Two changes e and f of one cell, accepted one after the other: their fold is present; some frame of real bytes says it,
    -- if the first was one; and every pair that was alike when new and was given the same before takes any frame that says
    -- it in the place of the two.
    pub record Foldable (before : List (List ℕ)) (s : Side) (p c : ℕ) (e f : Change) (first : List ℕ) (t u : Edit) (d d2 : State R) : Type 0 where
      pub ef : Change
      pub fold_is : fold (kinds row s d c) e f ≡ Ok (Some ef)
      pub sayable : Bytes first → (bytes : List ℕ) × Says s p c ef bytes
      pub replaced : (bytes : List ℕ) → frame bytes ≡ Ok (s, change p c ef) → (alike : R) → row.fresh alike ≡ row.fresh pattern →
          Replaced s t u d2 (after row (opened row size alike) before) bytes

    -- What holds in the state d that a new pair of this size and pattern has come to by the attempts before.
    pub record Stands (before : List (List ℕ)) (d : State R) : Type 0 where
      -- the size and the pattern are those that it was opened with
      pub size_stays : d.size ≡ size
      pub pattern_stays : d.blank ≡ row.fresh pattern
      -- the documents agree
      pub agreeing : Agreeing d
      -- an accepted frame acts on both documents
      pub acting : (bytes : List ℕ) (t : Edit) (e : State R) → Accepts d bytes t e → Acting bytes t d e
      -- a frame is refused exactly when it is unfit
      pub refusing : (bytes : List ℕ) (s : Side) (op : Edit) → frame bytes ≡ Ok (s, op) → Refuses d bytes ↔ Unfit s op d
      -- two accepted changes of one cell fold
      pub folding : (s : Side) (p c : ℕ) (e f : Change) (first second : List ℕ) (t u : Edit) (d1 d2 : State R) →
          frame first ≡ Ok (s, change p c e) → frame second ≡ Ok (s, change p c f) → Accepts d first t d1 → Accepts d1 second u d2 →
          Foldable before s p c e f first t u d d2

    -- both documents are empty in the beginning, and all this stands after every list of attempts
    pub record Keeps : Type 0 where
      pub no_lines : (opened row size pattern).lines ≡ []
      pub no_records : (opened row size pattern).records ≡ []
      pub always : (attempts : List (List ℕ)) → Stands attempts (after row (opened row size pattern) attempts)

-- The promise of a row of links: a pair of any size and pattern keeps it.
abbrev pub Promise : {R : Type 0} → Columns R → Type 0
Promise {R} row = (size : ℕ) (pattern : R) → Keeps row size pattern
