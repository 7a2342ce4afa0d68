-- What comes of a report.
use Rattle.std.specs.Prelude.{◌≡◌, ℕ, suc, length, Some, Result, Ok, Err}
use Rattle.trace_types.specs.tenant.Tenant.{with_row, step, Steps}
use Rattle.trace_types.specs.declared.code.Code.{Code}
use Rattle.trace_types.specs.declared.reply.Reply.TheVariants as reply
use Rattle.trace_types.specs.declared.request.Request.{Request}
use Rattle.trace_types.specs.declared.code.Code.TheVariants.{NoMemory}
use Rattle.tenant_ledger.specs.declared.book.report.Report.{Report}
use Rattle.tenant_ledger.specs.Contents.{Contents, tenant_of}
use Rattle.tenant_ledger.specs.Kept.{IsKept}
use Rattle.tenant_ledger.specs.Reports.{row_of_report}
use Rattle.tenant_ledger.specs.Events.{Event}
use Rattle.tenant_ledger.specs.Adding.{with_event, IsReady}

-- The event is the next one, with which the request is accepted; or the request is refused.
abbrev pub Drafts : Result Event Code → Contents → Request → Type 0
Drafts (Ok event) book request =
    IsKept (with_event event book) × (step (tenant_of book) request ≡ (reply.Accepted (suc (length book.rows)), with_row (tenant_of book) (Some event.row)))
Drafts (Err code) book request = Steps (tenant_of book) request (reply.Refused code) (tenant_of book)

-- The event of the request is ready, and with its row the tenant's step is done. Else the request was refused, or there was no
-- memory where that may be.
abbrev pub Prepares : Result Event Code → Contents → Request → Contents → Type 0
Prepares (Ok event) old request new =
    IsReady new event × (tenant_of new ≡ tenant_of old)
    × (step (tenant_of old) request ≡ (reply.Accepted (suc (length old.rows)), with_row (tenant_of old) (Some event.row)))
Prepares (Err code) old request new =
    IsKept new × (tenant_of new ≡ tenant_of old) × Steps (tenant_of old) request (reply.Refused code) (tenant_of old)

-- The report is taken as the tenant's next event, of this number. Else it was refused, or there was no memory where that may be.
abbrev pub Takes : Result ℕ Code → Contents → Request → Contents → Type 0
Takes (Ok event) old request new = IsKept new × (step (tenant_of old) request ≡ (reply.Accepted event, tenant_of new))
Takes (Err code) old request new =
    IsKept new × (tenant_of new ≡ tenant_of old) × Steps (tenant_of old) request (reply.Refused code) (tenant_of old)

-- The report is taken as the tenant's next event, of this number. Else there was no memory, and the tenant is as it was.
abbrev pub TakesReport : Result ℕ Code → Contents → Report → Contents → Type 0
TakesReport (Ok event) old report new =
    IsKept new × (tenant_of new ≡ with_row (tenant_of old) (Some (row_of_report old report))) × (event ≡ suc (length old.rows))
TakesReport (Err code) old report new = IsKept new × (tenant_of new ≡ tenant_of old) × (code ≡ NoMemory)
