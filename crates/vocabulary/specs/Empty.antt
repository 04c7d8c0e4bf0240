-- The record of a resource of which nothing is known, and what a table reads past its end.
use Rattle.std.specs.Prelude.{[], replicate, None}
use Rattle.curves.specs.Rows.{empty_row}
use Rattle.vocabulary.specs.declared.resource.Values.{Values}
use Rattle.vocabulary.specs.declared.resource.Remark.{Remark}
use Rattle.vocabulary.specs.declared.resource.Resource.{Resource}

abbrev pub empty_values : Values
empty_values = record { curves = replicate 4 empty_row; amounts = replicate 4 None }

abbrev pub empty_remark : Remark
empty_remark = record { bytes = replicate 120 0; count = 0 }

abbrev pub empty_resource : Resource
empty_resource = record {
  standing = None;
  offer = empty_values;
  reference = empty_values;
  quantities = replicate 4 None;
  prices = replicate 12 None;
  remark = empty_remark;
}

abbrev no_values : Values
no_values = record { curves = []; amounts = [] }

abbrev no_remark : Remark
no_remark = record { bytes = []; count = 0 }

-- what a table reads past its end
abbrev pub no_resource : Resource
no_resource = record { standing = None; offer = no_values; reference = no_values; quantities = []; prices = []; remark = no_remark }
