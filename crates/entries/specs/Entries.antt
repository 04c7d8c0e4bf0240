-- What each case of an entry is in its file.
use Rattle.std.specs.Prelude.{ℕ, List}
use Rattle.entries.specs.declared.head.Head.{Head}
use Rattle.entries.specs.declared.entry.Entry.{Entry}
use Rattle.entries.specs.declared.entry.Entry.TheVariants.{Line, Standing, Offer, Reference, Quantity, Price, Remark}

-- head, body and the offset of the kind byte
pub record Raw : Type 0 where
  pub head : Head
  pub body : List ℕ
  pub place : ℕ

abbrev pub head : ℕ → ℕ → ℕ → Head
head kind first sub = record { kind = kind; first = first; sub = sub }

abbrev pub raw : Head → List ℕ → ℕ → Raw
raw h body place = record { head = h; body = body; place = place }

abbrev pub raw_of : Entry → Raw
raw_of (Line condition test body place) = raw (head 1 condition test) body.now place
raw_of (Standing resource body place) = raw (head 2 resource 0) body.now place
raw_of (Offer resource parameter body place) = raw (head 3 resource parameter) body.now place
raw_of (Reference resource parameter body place) = raw (head 4 resource parameter) body.now place
raw_of (Quantity resource product body place) = raw (head 5 resource product) body.now place
raw_of (Price resource run body place) = raw (head 6 resource run) body.now place
raw_of (Remark resource body place) = raw (head 7 resource 0) body.now place
