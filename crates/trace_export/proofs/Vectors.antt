-- What the definition of an export gives at rows that are written out.
use Rattle.std.proofs.Common.{◌≡◌, ℕ, List, [], ◌∷◌, ◌++◌, Option, Some, None, refl, codes}
use Rattle.std.specs.Fmt.{digits}
use Rattle.serde_json.proofs.OnLiterals.{serde_json_on_literals}
use Rattle.trace_types.specs.text.Name.{Text}
use Rattle.trace_types.specs.declared.row.Row.{Row}
use Rattle.trace_types.specs.declared.row.Kind.{Kind}
use Rattle.trace_types.specs.declared.row.Kind.TheVariants.{Local, Spawn, Send, Recv, End, Join}
use Rattle.trace_types.specs.tenant.Limits.{default_limits}
use Rattle.trace_export.specs.Export.{export_text}
use Rattle.trace_export.specs.declared.header.Header.{Header}

abbrev row : Text → Kind → Option Text → List ℕ → Row
row task kind name preds = record { kind = kind; task = task; name = name; preds = preds }

-- the header of a tenant that has the limits that stand where none are asked for
abbrev header : Header
header = record { tenant = codes "x"; limits = default_limits }

-- rows of every kind
abbrev rows : List Row
rows =
    row (codes "root") Local None ([])
    ∷ row (codes "root") Spawn (Some (codes "a")) (1 ∷ [])
    ∷ row (codes "a") Local None (2 ∷ [])
    ∷ row (codes "root") Local None (2 ∷ [])
    ∷ row (codes "a") Send (Some (codes "m")) (3 ∷ [])
    ∷ row (codes "root") Recv (Some (codes "m")) (4 ∷ 5 ∷ [])
    ∷ row (codes "a") End None (5 ∷ [])
    ∷ row (codes "root") Join (Some (codes "a")) (6 ∷ 7 ∷ []) ∷ []

-- and the texts of their stamps
abbrev stamps : List Text
stamps =
    codes "[1;1]"
    ∷ codes "[(1,0);2]"
    ∷ codes "[(0,1);(2,0,1)]"
    ∷ codes "[(1,0);(2,1,0)]"
    ∷ codes "[(0,1);(2,0,2)]"
    ∷ codes "[(1,0);4]"
    ∷ codes "[(0,1);(2,0,3)]"
    ∷ codes "[1;5]" ∷ []

pub export_text-rows :
    export_text header rows stamps
    ≡ codes "{\"events\":4096,\"messages\":2048,\"tasks\":512,\"tenant\":\"x\",\"version\":2}" ++ 10 ∷ []
    ++ codes "{\"event\":1,\"kind\":\"local\",\"name\":\"-\",\"preds\":[],\"stamp\":\"[1;1]\",\"task\":\"root\"}" ++ 10 ∷ []
    ++ codes "{\"event\":2,\"kind\":\"spawn\",\"name\":\"a\",\"preds\":[1],\"stamp\":\"[(1,0);2]\",\"task\":\"root\"}" ++ 10 ∷ []
    ++ codes "{\"event\":3,\"kind\":\"local\",\"name\":\"-\",\"preds\":[2],\"stamp\":\"[(0,1);(2,0,1)]\",\"task\":\"a\"}" ++ 10 ∷ []
    ++ codes "{\"event\":4,\"kind\":\"local\",\"name\":\"-\",\"preds\":[2],\"stamp\":\"[(1,0);(2,1,0)]\",\"task\":\"root\"}" ++ 10 ∷ []
    ++ codes "{\"event\":5,\"kind\":\"send\",\"name\":\"m\",\"preds\":[3],\"stamp\":\"[(0,1);(2,0,2)]\",\"task\":\"a\"}" ++ 10 ∷ []
    ++ codes "{\"event\":6,\"kind\":\"recv\",\"name\":\"m\",\"preds\":[4,5],\"stamp\":\"[(1,0);4]\",\"task\":\"root\"}" ++ 10 ∷ []
    ++ codes "{\"event\":7,\"kind\":\"end\",\"name\":\"-\",\"preds\":[5],\"stamp\":\"[(0,1);(2,0,3)]\",\"task\":\"a\"}" ++ 10 ∷ []
    ++ codes "{\"event\":8,\"kind\":\"join\",\"name\":\"a\",\"preds\":[6,7],\"stamp\":\"[1;5]\",\"task\":\"root\"}" ++ 10 ∷ []
unfolding digits serde_json_on_literals
export_text-rows = refl
