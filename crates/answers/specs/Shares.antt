-- The shares of all resources, product by product.
use Rattle.std.specs.Prelude.{List, [], slice_index_or}
use Rattle.bounds.specs.Meanings.{Meaning}
use Rattle.vocabulary.specs.declared.product.Product.{Product}
use Rattle.vocabulary.specs.Numbers.{product_number}
use Rattle.vocabulary.specs.Readings.{Lines}
use Rattle.charges.specs.declared.share.Share.{Share}
use Rattle.charges.specs.Groups.{SharesOf, Small}
use Rattle.charges.specs.Tables.{Owns}
use Rattle.answers.specs.declared.shares.Shares.{Shares}

abbrev pub shares_for : Shares → Product → List Share
shares_for s product = slice_index_or s.by_product (product_number product) []

-- each product's shares are those of the resources, with quantities in range
pub record Shared (quantities : Meaning) (lines : Lines) (owns : Owns) (s : Shares) : Type 0 where
  pub made : (product : Product) → SharesOf quantities lines owns product (shares_for s product)
  pub small : (product : Product) → Small (shares_for s product)
